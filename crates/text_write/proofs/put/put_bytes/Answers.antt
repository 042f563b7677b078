-- `text_write::put::put_bytes` meets its contract.
-- Assumes nothing.
use Rattle.text_write.proofs.PutCode.{onward_start, byte_room, byte_goes, bytes_end}
use Rattle.text_write.proofs.put.put_bytes.Goals as goal

pub loop-b-init : goal.loop-b-init
loop-b-init c = onward_start _ _ _ c.requires

pub put_byte-next-requires : goal.put_byte-next-requires
put_byte-next-requires c = byte_room _ _ _ _ _ _ _ c.loop-b-test.true c.loop-b.invariant

pub loop-b-preserved : goal.loop-b-preserved
loop-b-preserved c =
    byte_goes _ _ _ _ _ _ _ c.loop-b-test.true c.loop-b.invariant _ _ c.put_byte-next.auto.out c.put_byte-next.ensures

pub returns : goal.returns
returns c = bytes_end _ _ _ _ _ _ _ c.loop-b-test.false c.loop-b.invariant
