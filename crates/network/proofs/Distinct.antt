-- Lists of distinct numbers, and the pigeonhole principle.
--     seen                a number stands in a list, or is none of its numbers
--     distinct_length     distinct numbers below n are at most n numbers
-- Assumes nothing.
use mathlib.Core.Path.{◌≡◌}
use mathlib.Core.List.{List, [], ◌∷◌, Memᴰ}
use mathlib.Core.Logic.{◌⊎◌, inl, inr, ◌≢◌}
use Prim.Native.Nat.{ℕ, zero, suc, ◌≤◌, ◌<◌, zero-le, suc-le-suc}
use native.Mathlib.Nat.{le_trans, not-suc-le-zero}
use native.Mathlib.Decide.{ℕ_discrete}
use native.Mathlib.Omega.{arith}
use lib.ListN.{length}

-- P holds of each number of the list
pub data Each (P : ℕ → Type 0) : List ℕ → Type 0 where
  none : Each P []
  more : {x : ℕ} {xs : List ℕ} → P x → Each P xs → Each P (x ∷ xs)

-- no number stands in the list twice
pub data Distinct : List ℕ → Type 0 where
  empty : Distinct []
  apart : {x : ℕ} {xs : List ℕ} → Each (λ y. x ≢ y) xs → Distinct xs → Distinct (x ∷ xs)

pub seen : (x : ℕ) (ys : List ℕ) → Memᴰ x ys ⊎ Each (λ y. x ≢ y) ys
seen x [] = inr none
seen x (y ∷ ys) = go (ℕ_discrete x y) (seen x ys)
  where
    go : Dec (x ≡ y) → Memᴰ x ys ⊎ Each (λ z. x ≢ z) ys → Memᴰ x (y ∷ ys) ⊎ Each (λ z. x ≢ z) (y ∷ ys)
    go (yes e) _ = inl (Memᴰ.head e)
    go (no d) (inl m) = inl (Memᴰ.tail m)
    go (no d) (inr e) = inr (more d e)

-- the distinct numbers of xs, all below m + 1, without m: they are below m, and at most one fewer
record Without (m : ℕ) (xs : List ℕ) : Type 0 where
  rest : List ℕ
  kept : (x : ℕ) → Each (λ y. x ≢ y) xs → Each (λ y. x ≢ y) rest
  distinct : Distinct rest
  below : Each (λ y. y < m) rest
  count : length xs ≤ suc (length rest)

below_less : {m : ℕ} {xs : List ℕ} → Each (λ y. m ≢ y) xs → Each (λ y. y < suc m) xs → Each (λ y. y < m) xs
below_less none none = none
below_less {m} (more {x = x} d ds) (more h hs) = let k : x < m = omega arith in more k (below_less ds hs)

each_head : {P : ℕ → Type 0} {x : ℕ} {xs : List ℕ} → Each P (x ∷ xs) → P x
each_head (more p ps) = p

each_tail : {P : ℕ → Type 0} {x : ℕ} {xs : List ℕ} → Each P (x ∷ xs) → Each P xs
each_tail (more p ps) = ps

without : (m : ℕ) {xs : List ℕ} → Distinct xs → Each (λ y. y < suc m) xs → Without m xs
without m empty none = record { rest = []; kept = λ x e. e; distinct = empty; below = none; count = zero-le }
without m (apart {x = x} {xs = xs} d ds) (more h hs) = go (ℕ_discrete m x) (without m ds hs)
  where
    go : Dec (m ≡ x) → Without m xs → Without m (x ∷ xs)
    go (yes e) w =
        record {
          rest = xs;
          kept = λ z. each_tail;
          distinct = ds;
          below = below_less (rw e d) hs;
          count = omega arith;
        }
    go (no n) w =
        record {
          rest = x ∷ w.rest;
          kept = λ z e. more (each_head e) (w.kept z (each_tail e));
          distinct = apart (w.kept x d) w.distinct;
          below = let k : x < m = omega arith in more k w.below;
          count = suc-le-suc w.count;
        }

pub distinct_length : (n : ℕ) {xs : List ℕ} → Distinct xs → Each (λ y. y < n) xs → length xs ≤ n
distinct_length zero empty none = zero-le
distinct_length zero (apart d ds) (more h hs) = absurd (not-suc-le-zero h)
distinct_length (suc n) d b = let w = without n d b in le_trans w.count (suc-le-suc (distinct_length n w.distinct w.below))
