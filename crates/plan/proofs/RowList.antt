-- Laws of `rows_from`, the rows of a table as a list.
--     rows_more, rows_done      one row more, and none left: what a loop over the rows uses
--     rows_last                 one row more, at the end
--     length_rows, get_d_rows    how many there are, and which stands at a place
--     rows_agree                rows that agree one by one are the same
--     map_rows                  each row seen through a function
-- Assumes nothing.
use mathlib.Core.Path.{◌≡◌, refl, ap, ap₂, sym, ◌∙◌}
use mathlib.Core.List.{List, [], ◌∷◌, ◌++◌, map}
use Prim.Native.Nat.{ℕ, zero, suc, ◌+◌, ◌-◌, ◌≤◌, ◌<◌}
use native.Mathlib.Nat.{add-zero, not-suc-le-zero, le_of_suc-le-suc}
use native.Mathlib.Numerals.{add-one}
use native.Mathlib.Omega.{arith}
use lib.ListN.{length, get_or}
use Rattle.plan.specs.Tables.{rows_from}

module _ {A : Type 0} (row : ℕ → A) where
  pub rows_more : (k n : ℕ) → k < n → rows_from row k (n - k) ≡ row k ∷ rows_from row (k + 1) (n - (k + 1))
  unfolding rows_from
  rows_more k n h =
      let e : n - k ≡ suc (n - (k + 1)) = omega arith in
      let s : suc k ≡ k + 1 = sym (add-one k) in
      ap (λ (m : ℕ). rows_from row k m) e ∙ ap (λ (j : ℕ). row k ∷ rows_from row j (n - (k + 1))) s

  pub rows_done : (k n : ℕ) → n ≤ k → rows_from row k (n - k) ≡ []
  unfolding rows_from
  rows_done k n h =
      let e : n - k ≡ 0 = omega arith in
      ap (λ (m : ℕ). rows_from row k m) e

  pub rows_last : (k n : ℕ) → rows_from row k (suc n) ≡ rows_from row k n ++ (row (k + n) ∷ [])
  unfolding rows_from
  rows_last k zero = ap (λ (i : ℕ). row i ∷ []) (sym (add-zero k))
  rows_last k (suc n) =
      let e : suc k + n ≡ k + suc n = omega arith in
      ap (λ (rest : List A). row k ∷ rest) (rows_last (suc k) n ∙ ap (λ (i : ℕ). rows_from row (suc k) n ++ (row i ∷ [])) e)

  pub length_rows : (k n : ℕ) → length (rows_from row k n) ≡ n
  unfolding rows_from
  length_rows k zero = refl
  length_rows k (suc n) = ap suc (length_rows (suc k) n)

  pub get_d_rows : (k n i : ℕ) (blank : A) → i < n → get_or (rows_from row k n) i blank ≡ row (k + i)
  unfolding rows_from
  get_d_rows k zero i blank h = absurd (not-suc-le-zero h)
  get_d_rows k (suc n) zero blank h = ap row (sym (add-zero k))
  get_d_rows k (suc n) (suc i) blank h =
      let e : suc k + i ≡ k + suc i = omega arith in
      get_d_rows (suc k) n i blank (le_of_suc-le-suc h) ∙ ap row e

pub rows_agree : {A : Type 0} (row row' : ℕ → A) (k n : ℕ) → ((i : ℕ) → i < k + n → row i ≡ row' i) → rows_from row k n ≡ rows_from row' k n
unfolding rows_from
rows_agree row row' k zero same = refl
rows_agree {A} row row' k (suc n) same =
    ap₂ (λ (x : A) (rest : List A). x ∷ rest) (same k (omega arith)) (rows_agree row row' (suc k) n (λ i h. same i (omega arith)))

pub map_rows : {A B : Type 0} (f : A → B) (row : ℕ → A) (k n : ℕ) → map f (rows_from row k n) ≡ rows_from (λ i. f (row i)) k n
unfolding rows_from
map_rows f row k zero = refl
map_rows {B} f row k (suc n) = ap {B = List B} (λ rest. f (row k) ∷ rest) (map_rows f row (suc k) n)
