-- `text_write::put::put_rows` meets its contract.
-- Assumes nothing.
use Rattle.std.proofs.Common.{arith}
use Rattle.text_write.proofs.PutCode.{row_taken, line_room, line_goes, lines_end}
use Rattle.text_write.proofs.put.put_rows.Goals as goal

pub put_line-next-requires : goal.put_line-next-requires
put_line-next-requires c =
    line_room _ _ _ _ _ _ _ _ _ _ (row_taken _ _ (omega arith)) c.loop-k-test.true c.loop-k.invariant

pub loop-k-preserved : goal.loop-k-preserved
loop-k-preserved c =
    line_goes _ _ _ _ _ _ _ _ _ _ (row_taken _ _ (omega arith)) c.loop-k-test.true c.loop-k.invariant _ _ c.put_line-next.auto.out
    c.put_line-next.ensures

pub returns : goal.returns
returns c = lines_end _ _ _ _ _ _ _ _ _ c.loop-k-test.false c.loop-k.invariant
