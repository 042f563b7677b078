-- `route::asks::answer_each` meets its contract. The loop's invariant: the parts printed so far are the answers from the first line on.
-- Assumes nothing.
use mathlib.Core.Path.{◌≡◌}
use Prim.Native.Nat.{◌-◌}
use lib.ListN.{length}
use Rattle.route.proofs.AsksCode.{SoFar}
use Rattle.route.proofs.asks.answer_each.Given as goal

abbrev pub invariant-loop-tables : goal.invariant-loop-tables
invariant-loop-tables g l = SoFar l.tables.contacts.now l.tables.contact_count l.tables.ranges.now l.tables.range_count l.input l.printed × (length l.out ≡ length l.initial.out)

abbrev pub decreases-loop-tables : goal.decreases-loop-tables
decreases-loop-tables g l = length l.input - l.printed.at
