-- `text_reader::through::read_lines` meets its contract.
-- Assumes nothing.
use Rattle.std.proofs.Common.{◌+◌, ◌<◌, length, sym, ap, ◌∙◌, arith, length-drop, zero-le, List, ℕ}
use Rattle.std.proofs.lemmas.Result.{err_from_is_err_and}
use borrow.Author.Tests.{ltb-true, ltb-false}
use Rattle.plan.specs.Tables.{plan_of, rows_from}
use Rattle.text.specs.Lines.{line_feed, lines_of}
use Rattle.text.specs.Model.{up_to, read_lines, no_rows}
use Rattle.text.specs.Rows.{header}
use Rattle.text_rows.specs.Tables.{rows, refused}
use Rattle.text_reader.proofs.StepCode.{line_taken, line_refused, all_read}
use Rattle.text_reader.proofs.through.read_lines.Goals as goal

pub loop-reader-init : goal.loop-reader-init
unfolding header no_rows plan_of rows_from
loop-reader-init c = record {
  contacts_fit = zero-le;
  ranges_fit = zero-le;
  counted = omega (arith, c.requires.2, ap length c.behind_header-reader.ensures, length-drop 7 c.args.text.now);
  leads = ap (λ (bs : List ℕ). read_lines 2 no_rows (lines_of bs)) c.behind_header-reader.ensures;
}

pub returns-in_err-counts : goal.returns-in_err-counts
unfolding header
returns-in_err-counts c =
    let p = err_from_is_err_and c.from_residual.result c.from_residual.ensures.1 in
    let left = ltb-true _ _ (sym c.has_line.ensures ∙ c.loop-reader-test.true) in
    rw (p.1, p.2)
    (refused _ (sym c.loop-reader.invariant.leads ∙ line_refused _ _ _ left _ c.next_line-said.ensures.says c.in_err-counts.ensures))

pub loop-reader-preserved : goal.loop-reader-preserved
loop-reader-preserved c =
    let left : 0 < length c.loop-reader.reader = ltb-true _ _ (sym c.has_line.ensures ∙ c.loop-reader-test.true) in
    let t = line_taken _ _ _ left _ c.next_line-said.ensures.says c.in_ok-counts.ensures in
    record {
      contacts_fit = t.contacts_fit;
      ranges_fit = t.ranges_fit;
      counted =
          omega (
            arith,
            ap length c.next_line-said.ensures.left,
            length-drop (up_to line_feed c.loop-reader.reader + 1) c.loop-reader.reader,
            c.loop-reader.invariant.counted,
            left,
          );
      leads =
          ap (λ (bs : List ℕ). read_lines (c.loop-reader.line + 1) (plan_of c.take_said.new.contacts c.in_ok-counts.counts.contacts c.take_said.new.ranges c.in_ok-counts.counts.ranges) (lines_of bs)) c.next_line-said.ensures.left
          ∙ t.leads
          ∙ c.loop-reader.invariant.leads;
    }

pub returns : goal.returns
unfolding header
returns c =
    let inv = c.loop-reader.invariant in
    rows _ _ inv.contacts_fit inv.ranges_fit
    (sym inv.leads ∙ all_read _ _ _ (ltb-false _ _ (sym c.has_line.ensures ∙ c.loop-reader-test.false)))
