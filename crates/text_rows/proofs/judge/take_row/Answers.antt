-- `text_rows::judge::take_row` meets its contract.
-- Assumes nothing.
use Rattle.std.proofs.Common.{◌*◌, ◌≤◌, length, ◌+◌, ◌<◌, arith}
use Rattle.plan.specs.Tables.{words}
use Rattle.text.specs.Reading.{refusal_of, too_many, bad_value, overlapping}
use Rattle.text_rows.specs.Tables.{faulty_row, stored}
use Rattle.text_rows.proofs.JudgeCode.{row_full, row_bad, row_meets, row_fits, clear_of}
use Rattle.text_rows.proofs.TablesCode.{row_stored}
use Rattle.text_rows.proofs.judge.take_row.Goals as goal

pub returns-then-MOST-k : goal.returns-then-MOST-k
unfolding refusal_of
returns-then-MOST-k g c = faulty_row too_many (row_full _ _ _ _ _ _ (omega arith))

pub returns-then-not-is_good : goal.returns-then-not-is_good
unfolding refusal_of
returns-then-not-is_good g c = faulty_row bad_value (row_bad _ _ _ _ _ _ (omega arith) _ c.is_good.ensures c.if-not-is_good.true)

pub returns-then-not-is_clear : goal.returns-then-not-is_clear
unfolding refusal_of
returns-then-not-is_clear g c =
    let apart = clear_of g.met.R.Row.laws _ _ _ _ c.is_clear.ensures in
    faulty_row overlapping
    (row_meets _ _ _ _ _ _ (omega arith) _ c.is_good.ensures c.if-not-is_good.false _ c.span.ensures _ apart c.if-not-is_clear.true)

pub returns : goal.returns
returns g c =
    let fits : c.args.k < g.R.Row.MOST = omega arith in
    let room : c.args.k * words + words ≤ length c.args.table.now = omega arith in
    let apart = clear_of g.met.R.Row.laws _ _ _ _ c.is_clear.ensures in
    stored _
    (row_fits _ _ _ _ _ _ fits _ c.is_good.ensures c.if-not-is_good.false _ c.span.ensures _ apart c.if-not-is_clear.false)
    fits (row_stored g.met.R.Row.laws _ _ _ _ room c.put_row.ensures c.put_row.auto.table)
