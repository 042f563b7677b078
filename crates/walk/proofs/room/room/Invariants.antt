-- `walk::room::room` meets its contract.
-- Assumes nothing.
use mathlib.Core.Path.{◌≡◌}
use Prim.Native.Nat.{◌≤◌}
use Rattle.units.specs.Limits.{most_size}
use Rattle.service.specs.Held.{service_in}
use Rattle.walk.specs.Model.{room_from, room_of}
use Rattle.walk.proofs.room.room.Given as goal

-- so many bits are still to be found
abbrev pub invariant-loop-bit : goal.invariant-loop-bit
invariant-loop-bit l = record {
  most : l.size ≤ most_size;
  found : room_of (service_in l.service) l.ask.asked l.chain ≡ room_from (service_in l.service) l.ask.asked l.chain l.size l.bit;
}
