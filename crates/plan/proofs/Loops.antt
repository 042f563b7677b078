-- What a loop over the rows k, k + 1, .., n - 1 knows of `each`: at its start, at a row that passes, at one that fails, at its end.
-- Assumes nothing.
use mathlib.Core.Bool.{Bool, true, false}
use mathlib.Core.Path.{◌≡◌, sym, ap, ◌∙◌}
use Prim.Native.Nat.{ℕ, ◌+◌, ◌-◌, ◌≤◌, ◌<◌}
use native.Mathlib.Nat.{sub-zero}
use Rattle.plan.specs.Model.{each}
use Rattle.plan.specs.Tables.{rows_from}
use Rattle.plan.proofs.RowList.{rows_more, rows_done}

-- the loop begins with every row
pub rows_all : {A : Type 0} (row : ℕ → A) (n : ℕ) → rows_from row 0 n ≡ rows_from row 0 (n - 0)
rows_all row n = rw sub-zero

-- the rows from k on give what all rows give, and row k is x, of which b tells
module _ {A : Type 0} (test : A → Bool) (row : ℕ → A) (k n : ℕ) (whole : Bool) (rest : whole ≡ each test (rows_from row k (n - k))) where
  module _ (h : k < n) (x : A) (ex : x ≡ row k) (b : Bool) (eb : b ≡ test x) where
    told : (v : Bool) → b ≡ v → test (row k) ≡ v
    told v e = ap test (sym ex) ∙ sym eb ∙ e

    pub each_goes : b ≡ true → whole ≡ each test (rows_from row (k + 1) (n - (k + 1)))
    unfolding each
    each_goes e = rw (rest, rows_more row k n h, told true e)

    pub each_stops : b ≡ false → false ≡ whole
    unfolding each
    each_stops e = rw (rest, rows_more row k n h, told false e)

  pub each_ends : n ≤ k → true ≡ whole
  unfolding each
  each_ends h = rw (rest, rows_done row k n h)
