-- `Each` and `NoTwo` said by membership, and of a list with one element more.
--     each_mem, mem_each      it holds of each element
--     no_two_meets             two elements of such a list do not meet
--     no_two_more              one element more, at the end
-- Assumes nothing.
use mathlib.Core.Path.{◌≡◌, refl, sym, subst, subst₂}
use mathlib.Core.List.{List, [], ◌∷◌, ◌++◌, Memᴰ}
use Prim.Native.Nat.{ℕ, zero, suc, ◌<◌, suc-le-suc, zero-le}
use native.Mathlib.Nat.{not-suc-le-zero, le_of_suc-le-suc}
use native.Mathlib.Decide.{dec_lt}
use native.Mathlib.Omega.{arith}
use lib.ListN.{length, get_or, length-append, get_or-append}
use lib.Seq.{get_or-append_seam}
use Rattle.plan.specs.Plan.{Each, NoTwo}

module _ {A : Type 0} where
  mem_get_d : (xs : List A) (k : ℕ) (blank : A) → k < length xs → Memᴰ (get_or xs k blank) xs
  mem_get_d [] k blank h = absurd (not-suc-le-zero h)
  mem_get_d (x ∷ xs) zero blank h = Memᴰ.head refl
  mem_get_d (x ∷ xs) (suc k) blank h = Memᴰ.tail (mem_get_d xs k blank (le_of_suc-le-suc h))

  -- where an element stands
  mem_place : {x : A} {xs : List A} → Memᴰ x xs → (k : ℕ) × (k < length xs) × ((blank : A) → get_or xs k blank ≡ x)
  mem_place (Memᴰ.head e) = (0, suc-le-suc zero-le, λ blank. sym e)
  mem_place (Memᴰ.tail m) = let p = mem_place m in (suc p.0, suc-le-suc p.1, p.2)

  module _ (P : A → Type 0) (xs : List A) where
    pub each_mem : Each P xs → {x : A} → Memᴰ x xs → P x
    unfolding Each
    each_mem ps {x} m = let p = mem_place m in subst P (p.2 x) (ps x p.0 p.1)

    pub mem_each : ((x : A) → Memᴰ x xs → P x) → Each P xs
    unfolding Each
    mem_each f blank k h = f (get_or xs k blank) (mem_get_d xs k blank h)

  module _ (R : A → A → Type 0) (xs : List A) (y : A) where
    pub no_two_meets : (ys : List A) → NoTwo R (xs ++ y ∷ ys) → {x : A} → Memᴰ x xs → R x y → ⊥
    unfolding NoTwo
    no_two_meets ys apart {x} m r =
        let p = mem_place m in
        let fits : length xs < length (xs ++ y ∷ ys) = rw length-append (omega arith) in
        let same : get_or (xs ++ y ∷ ys) p.0 x ≡ x = rw (get_or-append xs (y ∷ ys) x p.0 p.1) (p.2 x) in
        apart x p.0 (length xs) p.1 fits (subst₂ R (sym same) (sym (get_or-append_seam xs y ys x)) r)

    pub no_two_more : NoTwo R xs → ((x : A) → Memᴰ x xs → R x y → ⊥) → NoTwo R (xs ++ (y ∷ []))
    unfolding NoTwo
    no_two_more apart clear blank j k l h r = go (dec_lt k (length xs))
      where
        within : (i : ℕ) → i < length xs → get_or (xs ++ (y ∷ [])) i blank ≡ get_or xs i blank
        within i g = get_or-append xs (y ∷ []) blank i g

        go : Dec (k < length xs) → ⊥
        go (yes g) = let i : j < length xs = omega arith in apart blank j k l g (subst₂ R (within j i) (within k g) r)
        go (no g) =
            let e : k ≡ length xs = omega (arith, rw length-append at h) in
            let i : j < length xs = omega arith in
            let last : get_or (xs ++ (y ∷ [])) k blank ≡ y = rw e (get_or-append_seam xs y [] blank) in
            clear (get_or xs j blank) (mem_get_d xs j blank i) (subst₂ R (within j i) last r)
