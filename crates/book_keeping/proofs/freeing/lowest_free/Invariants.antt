-- `book_keeping::freeing::lowest_free` meets its contract. The loop's invariant: no place so far is free.
-- Assumes nothing.
use mathlib.Core.Path.{◌≡◌}
use Prim.Native.Nat.{ℕ, ◌<◌}
use Rattle.book.specs.Tables.{free_mark, mark_at}
use Rattle.book_keeping.proofs.freeing.lowest_free.Given as goal

abbrev pub invariant-loop-k : goal.invariant-loop-k
invariant-loop-k l = (j : ℕ) → j < l.k → mark_at l.book j ≡ free_mark → ⊥
