-- `text_lines::line::numbers` meets its contract.
-- Assumes nothing.
use Rattle.std.proofs.Common.{◌≤◌, ◌<◌, ◌∙◌, sym, length, arith}
use mathlib.Core.Bool.{false≢true}
use borrow.Author.Tests.{eqb-true}
use Rattle.text_lines.proofs.LineCode.{numbers_goes, numbers_stored, next_inside, numbers_stops, numbers_ends, numbers_all}
use Rattle.text_lines.proofs.line.numbers.Goals as goal

pub returns-in_default : goal.returns-in_default
returns-in_default c =
    let stops = numbers_stops _ _ _ _ c.loop-word-test.true (sym c.field_at.ensures ∙ c.in_default.is) in
    (sym (c.loop-word.invariant.1 ∙ stops), λ e. absurd (false≢true e))

pub loop-word-preserved : goal.loop-word-preserved
loop-word-preserved c =
    let told = sym c.field_at.ensures ∙ c.in-Some.is in
    let inside : c.loop-word.word-index < length c.loop-word.row = omega arith in (
      next_inside _ _ _ _ told,
      c.loop-word.invariant.1 ∙ numbers_goes _ _ _ _ _ _ c.loop-word-test.true told,
      c.loop-word.invariant.2 ∙ numbers_stored _ _ _ _ _ c.loop-word.row inside told,
    )

pub returns : goal.returns
returns c =
    let inv = c.loop-word.invariant in
    let done : length c.loop-word.row ≤ c.loop-word.word-index = omega arith in (
      sym (inv.1 ∙ sym (numbers_ends _ _ _ _ inv.0 c.loop-word-test.false)),
      λ e. numbers_all _ _ _ _ _ done inv.2
          (let end : length c.args.line.now ≤ c.loop-word.at = omega (arith, eqb-true c.loop-word.at (length c.args.line.now) e) in end),
    )
