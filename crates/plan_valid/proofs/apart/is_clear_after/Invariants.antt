-- `plan_valid::apart::is_clear_after` meets its contract. The loop's invariant: the walk has come to row j, and no row of the slot before it overlaps row i.
-- Assumes nothing.
use Prim.Native.Nat.{◌-◌}
use Rattle.plan_valid.proofs.ApartCode.{Cleared}
use Rattle.plan_valid.proofs.apart.is_clear_after.Given as goal

abbrev pub invariant-loop-j : goal.invariant-loop-j
invariant-loop-j l = Cleared l.table l.n l.i l.j

abbrev pub decreases-loop-j : goal.decreases-loop-j
decreases-loop-j l = l.n - l.j
