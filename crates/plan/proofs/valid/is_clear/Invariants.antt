-- `plan::valid::is_clear` meets its contract. The loop's invariant: the test of all rows from row k on is the test of those still to come.
-- Assumes nothing.
use mathlib.Core.Bool.{not}
use mathlib.Core.Path.{◌≡◌}
use Prim.Native.Nat.{◌-◌}
use Rattle.plan.specs.Model.{overlap, each}
use Rattle.plan.specs.Tables.{span_at, rows_from}
use Rattle.plan.proofs.valid.is_clear.Given as goal

abbrev pub invariant-loop-j : goal.invariant-loop-j
invariant-loop-j l = each (λ y. not (overlap l.one y)) (rows_from (span_at l.table) l.k (l.n - l.k)) ≡ each (λ y. not (overlap l.one y)) (rows_from (span_at l.table) l.j (l.n - l.j))
