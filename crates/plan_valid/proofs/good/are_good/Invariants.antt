-- `plan_valid::good::are_good` meets its contract. The loop's invariant: the test of all rows is the test of those still to come.
-- Assumes nothing.
use Rattle.std.proofs.Common.{◌≡◌, ◌-◌}
use Rattle.plan.specs.Model.{each}
use Rattle.plan.specs.Tables.{rows_from}
use Rattle.plan_valid.proofs.good.are_good.Given as goal

abbrev pub invariant-loop-k : goal.invariant-loop-k
invariant-loop-k g l =
    let r = g.R.Row in
    each r.good (rows_from (r.row_at l.table) 0 l.n) ≡ each r.good (rows_from (r.row_at l.table) l.k (l.n - l.k))
