-- What holds of each row of a table, and of each two, row by row.
--     rows_each, rows_no_two      what holds at each row, and at no two, holds of the rows as a list
--     each_row, no_two_row        and back
-- Assumes nothing.
use mathlib.Core.Path.{◌≡◌, sym, ap, ap₂, ◌∙◌, subst}
use Prim.Native.Nat.{ℕ, ◌<◌}
use native.Mathlib.Nat.{zero-add}
use native.Mathlib.Omega.{arith}
use lib.ListN.{get_or}
use Rattle.plan.specs.Plan.{Each, NoTwo}
use Rattle.plan.specs.Tables.{rows_from}
use Rattle.plan.proofs.RowList.{length_rows, get_d_rows}

module _ {A : Type 0} (P : A → Type 0) (row : ℕ → A) (n : ℕ) where
  pub rows_each : ((k : ℕ) → k < n → P (row k)) → Each P (rows_from row 0 n)
  unfolding Each
  rows_each all blank k h =
      let below : k < n = rw (length_rows row 0 n) at h in
      subst P (sym (get_d_rows row 0 n k blank below ∙ ap row (zero-add k))) (all k below)

  pub each_row : Each P (rows_from row 0 n) → (k : ℕ) → k < n → P (row k)
  unfolding Each
  each_row each k h =
      subst P (get_d_rows row 0 n k (row 0) h ∙ ap row (zero-add k)) (each (row 0) k (subst (λ (l : ℕ). k < l) (sym (length_rows row 0 n)) h))

module _ {A : Type 0} (R : A → A → Type 0) (row : ℕ → A) (n : ℕ) where
  two_rows : (blank : A) (j k : ℕ) → j < n → k < n → R (get_or (rows_from row 0 n) j blank) (get_or (rows_from row 0 n) k blank) ≡ R (row j) (row k)
  two_rows blank j k l h =
      ap₂ R (get_d_rows row 0 n j blank l ∙ ap row (zero-add j)) (get_d_rows row 0 n k blank h ∙ ap row (zero-add k))

  pub rows_no_two : ((j k : ℕ) → j < k → k < n → R (row j) (row k) → ⊥) → NoTwo R (rows_from row 0 n)
  unfolding NoTwo
  rows_no_two none blank j k l h r =
      let below : k < n = rw (length_rows row 0 n) at h in
      none j k l below (subst (λ (T : Type 0). T) (two_rows blank j k (omega arith) below) r)

  pub no_two_row : NoTwo R (rows_from row 0 n) → (j k : ℕ) → j < k → k < n → R (row j) (row k) → ⊥
  unfolding NoTwo
  no_two_row none j k l h r =
      none (row 0) j k l (subst (λ (m : ℕ). k < m) (sym (length_rows row 0 n)) h)
      (subst (λ (T : Type 0). T) (sym (two_rows (row 0) j k (omega arith) h)) r)
