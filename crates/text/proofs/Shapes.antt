-- The tests of a line's shape tell what the statements of specs/ say.
--     same_tells, number_tells, shaped_tells
-- Assumes nothing.
use mathlib.Core.Bool.{Bool, true, false, not, ◌||◌, false≢true}
use mathlib.Core.Logic.{◌⊎◌, inl, inr}
use mathlib.Core.Path.{◌≡◌, refl, ap₂}
use mathlib.Core.List.{List, [], ◌∷◌, head-eq_of_cons-eq, tail-eq_of_cons-eq, cons≢nil, nil≢cons}
use Prim.Native.Nat.{ℕ, ◌+◌}
use native.Mathlib.Decide.{ℕ_discrete}
use lib.Dec.{eqb}
use lib.ListN.{length, get_or}
use Rattle.plan.specs.Verdict.{Verdict, holds, fails}
use Rattle.plan.proofs.Tests.{each_tells}
use Rattle.plan.proofs.Verdicts.{tells_le, tells_lt, tells_eq, both, either, denied, restated}
use Rattle.text.specs.Digits.{nought, Digit, Number}
use Rattle.text.specs.Lines.{Line}
use Rattle.text.specs.Model.{same, is_digit, is_number, is_shaped}
use Rattle.text.specs.Rows.{Shaped}

pub same_tells : (xs ys : List ℕ) → Verdict (xs ≡ ys) (same xs ys)
unfolding same
same_tells [] [] = holds refl
same_tells [] (y ∷ ys) = fails nil≢cons
same_tells (x ∷ xs) [] = fails cons≢nil
same_tells (x ∷ xs) (y ∷ ys) =
    restated (λ p. ap₂ (λ (a : ℕ) (rest : List ℕ). a ∷ rest) p.0 p.1) (λ e. (head-eq_of_cons-eq e, tail-eq_of_cons-eq e))
    (both (tells_eq x y) (same_tells xs ys))

digit_tells : (b : ℕ) → Verdict (Digit b) (is_digit b)
digit_tells b = both (tells_le nought b) (tells_le b (nought + 9))

-- a leading zero stands alone
alone_tells : (ds : List ℕ) → Verdict (get_or ds 0 0 ≡ nought → length ds ≡ 1) (not (eqb (get_or ds 0 0) nought) || eqb (length ds) 1)
alone_tells ds = restated to from (either (denied (tells_eq (get_or ds 0 0) nought)) (tells_eq (length ds) 1))
  where
    to : (get_or ds 0 0 ≡ nought → ⊥) ⊎ (length ds ≡ 1) → get_or ds 0 0 ≡ nought → length ds ≡ 1
    to (inl other) e = absurd (other e)
    to (inr one) e = one

    from : (get_or ds 0 0 ≡ nought → length ds ≡ 1) → (get_or ds 0 0 ≡ nought → ⊥) ⊎ (length ds ≡ 1)
    from f = elim (ℕ_discrete (get_or ds 0 0) nought) [ yes e ↦ inr (f e) | no other ↦ inl other ]

pub number_tells : (ds : List ℕ) → Verdict (Number ds) (is_number ds)
unfolding is_number
number_tells ds =
    restated (λ p. record { not_blank = p.0.0; digits = p.0.1; no_leading_zero = p.1 }) (λ n. ((n.not_blank, n.digits), n.no_leading_zero))
    (both (both (tells_lt 0 (length ds)) (each_tells Digit is_digit digit_tells ds)) (alone_tells ds))

ended_tells : (b : Bool) → Verdict (b ≡ true) b
ended_tells true = holds refl
ended_tells false = fails false≢true

pub shaped_tells : (word : List ℕ) (count : ℕ) (l : Line) → Verdict (Shaped word count l) (is_shaped word count l)
unfolding is_shaped
shaped_tells word count l =
    restated (λ p. record { word_is = p.0.0.0; counted = p.0.0.1; numbers = p.0.1; ended = p.1 })
    (λ s. (((s.word_is, s.counted), s.numbers), s.ended))
    (both (both (both (same_tells l.word word) (tells_eq (length l.fields) count)) (each_tells Number is_number number_tells l.fields)) (ended_tells l.ended))
