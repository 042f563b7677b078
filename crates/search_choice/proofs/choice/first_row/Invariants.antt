-- `search_choice::choice::first_row` meets its contract.
-- Assumes nothing.
use mathlib.Core.Path.{◌≡◌}
use Prim.Native.Nat.{ℕ, ◌-◌, ◌<◌}
use lib.ListN.{get_or}
use Rattle.search_layers.specs.Words.{row_of}
use Rattle.search_choice.proofs.choice.first_row.Given as goal

abbrev pub invariant-loop-k : goal.invariant-loop-k
invariant-loop-k l = (j : ℕ) → j < l.k → get_or (row_of l.words j) (l.node.0 - 1) 0 ≡ l.time.0 → ⊥
