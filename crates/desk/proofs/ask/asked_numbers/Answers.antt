-- `desk::ask::asked_numbers` meets its contract.
-- Assumes nothing.
use Rattle.std.proofs.Common.{◌∙◌, sym}
use Rattle.text_lines.proofs.LineCode.{word_end, word_length}
use Rattle.desk.specs.Asks.{ask_word}
use Rattle.desk.proofs.AskCode.{asked_shape, ask_row}
use Rattle.desk.proofs.ask.asked_numbers.Goals as goal

pub numbers-are_numbers-requires : goal.numbers-are_numbers-requires
numbers-are_numbers-requires c = word_end _ _ c.find-end.ensures

pub slice_bounds-eq-end-2 : goal.slice_bounds-eq-end-2
slice_bounds-eq-end-2 c = word_length _ _ c.find-end.ensures

pub returns-then-is_ask-are_numbers : goal.returns-then-is_ask-are_numbers
unfolding ask_word
returns-then-is_ask-are_numbers c =
    let filled = c.numbers-are_numbers.ensures in
    let good = c.if-is_ask-are_numbers.true in (
      sym (asked_shape _ _ c.find-end.ensures c.args.ended _ _ filled.0 c.eq-is_ask.ensures) ∙ good,
      ask_row _ _ c.find-end.ensures _ _ _ _ filled.1 good,
    )

pub returns-else-is_ask-are_numbers : goal.returns-else-is_ask-are_numbers
unfolding ask_word
returns-else-is_ask-are_numbers c =
    sym (asked_shape _ _ c.find-end.ensures c.args.ended _ _ c.numbers-are_numbers.ensures.0 c.eq-is_ask.ensures) ∙ c.if-is_ask-are_numbers.false
