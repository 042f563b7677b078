-- `text_write::length::fields_length` meets its contract.
-- Assumes nothing.
use Rattle.std.proofs.Common.{arith}
use Rattle.text_write.proofs.LengthCode.{sum_field, sum_fields_end}
use Rattle.text_write.proofs.length.fields_length.Goals as goal

pub loop-n-preserved : goal.loop-n-preserved
loop-n-preserved c =
    let inv = c.loop-n.invariant in
    (sum_field _ _ _ _ c.loop-n-test.true c.digits.ensures.0 _ inv.0, omega (arith, inv.1, c.digits.ensures.1))

pub returns : goal.returns
returns c =
    let inv = c.loop-n.invariant in
    (sum_fields_end _ _ _ 0 c.loop-n-test.false _ inv.0, omega arith)
