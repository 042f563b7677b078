-- `service::serving::serve_in` meets its contract. The loop's invariant: the words beside the rows so far say their light times and their volumes, and what is kept of the
-- walks along the lists holds.
-- Assumes nothing.
use Prim.Native.Nat.{ℕ, ◌<◌}
use Rattle.plan.specs.Tables.{range_at, rows_from}
use Rattle.plan_light.specs.Model.{Kept}
use Rattle.service.proofs.ServingCode.{Beside}
use Rattle.service.proofs.serving.serve_in.Given as goal

abbrev pub invariant-loop-k : goal.invariant-loop-k
invariant-loop-k l =
    ((j : ℕ) → j < l.k → Beside l.plan.tables.contacts.now (rows_from (range_at l.plan.tables.ranges.now) 0 l.plan.tables.range_count) l.lights l.lefts j)
    × Kept l.plan.tables.ranges.now l.plan.tables.range_count l.kept
