-- `plan_valid::valid::has_rows` meets its contract.
-- Assumes nothing.
use Prim.Native.Nat.{◌≤◌, ◌<◌}
use native.Mathlib.Nat.{not-le_of_lt}
use native.Mathlib.Omega.{arith}
use Rattle.plan.specs.Verdict.{holds, fails}
use Rattle.plan_lists.specs.Model.{most_rows}
use Rattle.plan_valid.proofs.valid.has_rows.Goals as goal

pub returns-then-MOST-n : goal.returns-then-MOST-n
returns-then-MOST-n g c =
    let many : g.R.Row.MOST < c.args.n = omega (arith, c.MOST.ensures, c.if-MOST-n.true) in
    fails (λ t. not-le_of_lt many t.few)

pub overflow_mul-n : goal.overflow_mul-n
unfolding most_rows
overflow_mul-n g c = record { fits = omega (arith, c.MOST.ensures, c.if-MOST-n.false, c.requires) }

pub returns-then-table-n : goal.returns-then-table-n
returns-then-table-n g c = fails (λ t. not-le_of_lt c.if-table-n.true t.lent)

pub returns : goal.returns
returns g c =
    let few : c.args.n ≤ g.R.Row.MOST = omega (arith, c.MOST.ensures, c.if-MOST-n.false) in
    holds (record { few = few; lent = c.if-table-n.false })
