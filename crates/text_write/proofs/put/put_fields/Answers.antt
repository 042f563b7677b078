-- `text_write::put::put_fields` meets its contract.
-- Assumes nothing.
use Rattle.text_write.proofs.PutCode.{field_room, field_goes, fields_end}
use Rattle.text_write.proofs.put.put_fields.Goals as goal

pub put_field-next-requires : goal.put_field-next-requires
put_field-next-requires c = field_room _ _ _ _ _ _ _ c.loop-n-test.true c.loop-n.invariant

pub loop-n-preserved : goal.loop-n-preserved
loop-n-preserved c =
    field_goes _ _ _ _ _ _ _ c.loop-n-test.true c.loop-n.invariant _ _ c.put_field-next.auto.out c.put_field-next.ensures

pub returns : goal.returns
returns c = fields_end _ _ _ _ _ _ _ c.loop-n-test.false c.loop-n.invariant
