-- `text_write::length::digits` meets its contract.
-- Assumes nothing.
use Rattle.std.proofs.Common.{sym, arith}
use Rattle.text_write.proofs.LengthCode.{digits_are}
use Rattle.text_write.proofs.length.digits.Goals as goal

pub returns : goal.returns
returns c =
    let low = rw c.max.ensures at c.ilog10.ensures.power_le in
    let high = rw c.max.ensures at c.ilog10.ensures.next_power_gt in
    (sym (digits_are _ _ low high), omega (arith, c.ilog10.ensures.bound))
