-- `text_write::length::rows_length` meets its contract.
-- Assumes nothing.
use Rattle.std.proofs.Common.{◌+◌, ◌*◌, ◌≤◌, length, arith}
use Rattle.text_write.proofs.PutCode.{row_taken}
use Rattle.text_write.proofs.LengthCode.{row_few, sum_line, sum_lines_end}
use Rattle.text_write.proofs.length.rows_length.Goals as goal

pub loop-k-preserved : goal.loop-k-preserved
loop-k-preserved c =
    let inv = c.loop-k.invariant in
    let room : c.loop-k.k * 5 + 5 ≤ length c.args.table.now = omega (arith, c.loop-k-test.true, c.requires.2) in (
      sum_line _ _ _ _ _ _ _ (row_taken _ _ room) c.loop-k-test.true c.fields_length.ensures.0 _ inv.0,
      omega (arith, inv.1, c.requires.0, row_few _ _ _ room c.fields_length.ensures.1),
    )

pub returns : goal.returns
returns c =
    let inv = c.loop-k.invariant in
    (sum_lines_end _ _ _ _ _ 0 c.loop-k-test.false _ inv.0, omega arith)
