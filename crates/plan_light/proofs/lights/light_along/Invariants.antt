-- `plan_light::lights::light_along` meets its contract. The loop's invariant: the walk along the list of the slot of the contact's pair has come to
-- row j; the time missing and the largest light time so far, with those of the ranges still to come, are those of all ranges.
-- Assumes nothing.
use Prim.Native.Nat.{◌-◌}
use Rattle.plan_light.proofs.LightsCode.{Walked}
use Rattle.plan_light.proofs.lights.light_along.Given as goal

abbrev pub invariant-loop-j : goal.invariant-loop-j
invariant-loop-j l = Walked l.lists.ranges.now l.lists.range_count l.c l.missing l.light.0 l.j

abbrev pub decreases-loop-j : goal.decreases-loop-j
decreases-loop-j l = l.lists.range_count - l.j
