-- `desk::through::answer_while_room` meets its contract. The loop's invariant: the bytes used are the answers of the lines up to the place reached.
-- Assumes nothing.
use Prim.Native.Nat.{◌-◌}
use lib.ListN.{length}
use Rattle.desk_lines.proofs.TurnLaws.{SoFar}
use Rattle.desk.specs.Through.{longest, Says}
use Rattle.desk.proofs.through.answer_while_room.Given as goal

abbrev pub invariant-loop-at : goal.invariant-loop-at
invariant-loop-at l = SoFar (Says l.tables.contacts.now l.tables.contact_count l.tables.ranges.now l.tables.range_count) longest l.input tt l.from l.first l.initial.out tt l.at l.number l.used l.out

abbrev pub decreases-loop-at : goal.decreases-loop-at
decreases-loop-at l = length l.input - l.at
