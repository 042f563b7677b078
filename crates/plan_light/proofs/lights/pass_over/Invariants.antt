-- `plan_light::lights::pass_over` meets its contract. The loop's invariant: row j is of the list and ends by the time, and `next` is the row behind it.
-- Assumes nothing.
use mathlib.Core.Path.{◌≡◌}
use Prim.Native.Nat.{◌-◌}
use lib.ListN.{get_or}
use Rattle.plan_lists.specs.Lists.{slot_at}
use Rattle.plan_light.specs.Model.{Past}
use Rattle.plan_light.proofs.lights.pass_over.Given as goal

abbrev pub invariant-loop-next : goal.invariant-loop-next
invariant-loop-next l = Past l.lists.ranges.now l.lists.range_count (slot_at l.lists.ranges.now l.begin) l.time.0 l.j × (l.next ≡ get_or l.lists.nexts.now l.j 0)

abbrev pub decreases-loop-next : goal.decreases-loop-next
decreases-loop-next l = l.lists.range_count - l.j
