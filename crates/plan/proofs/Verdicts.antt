-- How verdicts are joined (`Verdict A b`: b is true where A holds and false where it does not).
--     tells_le, tells_lt, tells_eq      the tests of numbers
--     both, either, denied              joined tests
--     restated                          the same verdict on a statement that is as good
--     true_holds, false_fails, holds_true      from the answer to the statement, and back
--     answers_agree                     two verdicts on one statement are the same
-- Assumes nothing.
use mathlib.Core.Bool.{Bool, true, false, not, ◌&&◌, ◌||◌}
use mathlib.Core.Logic.{◌⊎◌, inl, inr, ⊎_elim}
use mathlib.Core.Path.{◌≡◌, refl, sym, subst}
use Prim.Native.Nat.{ℕ, ◌≤◌, ◌<◌}
use native.Mathlib.Nat.{not-le_of_lt}
use lib.Dec.{T, leb, ltb, eqb}
use borrow.Author.Tests.{leb-true, leb-false, ltb-true, ltb-false, eqb-true, eqb-false}
use Rattle.plan.specs.Verdict.{Verdict, holds, fails}

-- a test of which is known what either answer says
by_answer : {A : Type 0} (b : Bool) → (b ≡ true → A) → (b ≡ false → A → ⊥) → Verdict A b
by_answer true told untold = holds (told refl)
by_answer false told untold = fails (untold refl)

pub tells_le : (m n : ℕ) → Verdict (m ≤ n) (leb m n)
tells_le m n = by_answer (leb m n) (leb-true m n) (λ e h. not-le_of_lt (leb-false m n e) h)

pub tells_lt : (m n : ℕ) → Verdict (m < n) (ltb m n)
tells_lt m n = by_answer (ltb m n) (ltb-true m n) (λ e h. not-le_of_lt h (ltb-false m n e))

pub tells_eq : (m n : ℕ) → Verdict (m ≡ n) (eqb m n)
tells_eq m n = by_answer (eqb m n) (eqb-true m n) (eqb-false m n)

pub both : {A B : Type 0} {a b : Bool} → Verdict A a → Verdict B b → Verdict (A × B) (a && b)
both (holds x) (holds y) = holds (x, y)
both (holds x) (fails y) = fails (λ p. y p.1)
both (fails x) (holds y) = fails (λ p. x p.0)
both (fails x) (fails y) = fails (λ p. x p.0)

pub either : {A B : Type 0} {a b : Bool} → Verdict A a → Verdict B b → Verdict (A ⊎ B) (a || b)
either (holds x) (holds y) = holds (inl x)
either (holds x) (fails y) = holds (inl x)
either (fails x) (holds y) = holds (inr y)
either (fails x) (fails y) = fails (λ s. ⊎_elim x y s)

pub denied : {A : Type 0} {a : Bool} → Verdict A a → Verdict (A → ⊥) (not a)
denied (holds x) = fails (λ f. f x)
denied (fails x) = holds x

pub restated : {A B : Type 0} {b : Bool} → (A → B) → (B → A) → Verdict A b → Verdict B b
restated to from (holds x) = holds (to x)
restated to from (fails x) = fails (λ y. x (from y))

pub true_holds : {A : Type 0} {b : Bool} → Verdict A b → b ≡ true → A
true_holds (holds x) e = x
true_holds (fails x) e = absurd (subst T (sym e) tt)

pub false_fails : {A : Type 0} {b : Bool} → Verdict A b → b ≡ false → A → ⊥
false_fails (holds x) e y = subst T e tt
false_fails (fails x) e y = x y

pub holds_true : {A : Type 0} {b : Bool} → Verdict A b → A → b ≡ true
holds_true (holds x) y = refl
holds_true (fails x) y = absurd (x y)

pub answers_agree : {A : Type 0} {a b : Bool} → Verdict A a → Verdict A b → a ≡ b
answers_agree (holds x) v = sym (holds_true v x)
answers_agree (fails x) (holds y) = absurd (x y)
answers_agree (fails x) (fails y) = refl
