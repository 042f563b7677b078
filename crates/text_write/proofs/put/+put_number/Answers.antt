-- `text_write::put::put_number` meets its contract.
-- Assumes nothing.
use Rattle.std.proofs.Common.{arith}
use Rattle.text_write.proofs.PutCode.{small_room, front_room, last_room, number_small, number_large}
use Rattle.text_write.proofs.put.+put_number.Goals as goal

pub put_byte-requires : goal.put_byte-requires
put_byte-requires t c = small_room _ _ _ c.if-n-lt10.true c.requires

pub returns-then-n-lt10 : goal.returns-then-n-lt10
returns-then-n-lt10 t c = number_small _ _ _ c.if-n-lt10.true _ _ c.put_byte.ensures

pub put_number-next-requires : goal.put_number-next-requires
put_number-next-requires t c =
    (omega (arith, c.decreases, c.if-n-lt10.false), front_room _ _ _ c.if-n-lt10.false c.requires)

pub put_byte-requires-2 : goal.put_byte-requires-2
put_byte-requires-2 t c =
    let room = last_room _ _ _ c.if-n-lt10.false c.requires _ c.put_number-next.ensures.next_is in
    omega (arith, room, c.put_number-next.auto.out)

pub returns : goal.returns
returns t c =
    number_large _ _ _ c.if-n-lt10.false c.requires _ _ _ _ c.put_number-next.ensures c.put_byte-2.ensures
