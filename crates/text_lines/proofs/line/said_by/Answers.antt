-- `text_lines::line::said_by` meets its contract.
-- Assumes nothing.
use Rattle.text.specs.Rows.{contact_word, range_word}
use Rattle.text_lines.proofs.BytesCode.{same_told}
use Rattle.text_lines.proofs.LineCode.{word_end, word_length, said_bad, said_contact, said_range, said_other}
use Rattle.text_lines.proofs.line.said_by.Goals as goal

pub numbers-requires : goal.numbers-requires
numbers-requires c = word_end _ _ c.find-end.ensures

pub returns-then-not-numbers : goal.returns-then-not-numbers
returns-then-not-numbers c =
    said_bad _ _ c.find-end.ensures _ c.numbers.ensures.0 c.if-not-numbers.true

pub slice_bounds-word-end : goal.slice_bounds-word-end
slice_bounds-word-end c = word_length _ _ c.find-end.ensures

pub returns-then-eq : goal.returns-then-eq
unfolding contact_word
returns-then-eq c =
    let good = c.if-not-numbers.false in
    said_contact _ _ c.find-end.ensures _ c.numbers.ensures.0 good _ _ (same_told _ _ c.eq.ensures c.if-eq.true)
    (c.numbers.ensures.1 good) c.read.ensures

pub returns-then-eq-2 : goal.returns-then-eq-2
unfolding contact_word range_word
returns-then-eq-2 c =
    let good = c.if-not-numbers.false in
    said_range _ _ c.find-end.ensures _ c.numbers.ensures.0 good _ _ (same_told _ _ c.eq.ensures c.if-eq.false)
    (same_told _ _ c.eq-2.ensures c.if-eq-2.true) (c.numbers.ensures.1 good) c.read-then-eq-2.ensures

pub returns : goal.returns
unfolding contact_word range_word
returns c =
    let good = c.if-not-numbers.false in
    said_other _ _ c.find-end.ensures _ c.numbers.ensures.0 good (same_told _ _ c.eq.ensures c.if-eq.false)
    (same_told _ _ c.eq-2.ensures c.if-eq-2.false)
