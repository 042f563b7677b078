-- `plan_valid::apart::are_clear` meets its contract. The loop's invariant: no later row overlaps one of the rows so far.
-- Assumes nothing.
use Rattle.plan_valid.specs.Model.{Below, ClearAfter}
use Rattle.plan_valid.proofs.apart.are_clear.Given as goal

abbrev pub invariant-loop-i : goal.invariant-loop-i
invariant-loop-i l = Below (ClearAfter l.table l.n) l.i
