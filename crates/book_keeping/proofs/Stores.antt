-- A run of stores into a list, element by element.
--     sets_outside, sets_inside      an element beside the run, and one of it
-- Assumes nothing.
use mathlib.Core.List.{List, [], ◌∷◌}
use mathlib.Core.Path.{◌≡◌, refl, sym, ap, ◌∙◌}
use Prim.Native.Nat.{ℕ, zero, suc, ◌+◌, ◌≤◌, ◌<◌}
use native.Mathlib.Nat.{add-zero, add-suc, suc-add, not-suc-le-zero, le_of_suc-le-suc}
use native.Mathlib.Omega.{arith}
use lib.ListN.{length, get_or, set, length-set}
use lib.Seq.{sets, get_or-set_same, get_or-set_other}

-- beside n elements from place i on
pub data Beside (i n j : ℕ) : Type 0 where
  before : j < i → Beside i n j
  behind : i + n ≤ j → Beside i n j

module _ {A : Type 0} where
  pub sets_outside : (vs l : List A) (i j : ℕ) (d : A) → Beside i (length vs) j → get_or (sets l i vs) j d ≡ get_or l j d
  sets_outside [] l i j d out = refl
  sets_outside (a ∷ vs) l i j d (before h) =
      sets_outside vs (set l i a) (suc i) j d (before (omega arith)) ∙ get_or-set_other l i j a d (λ s. omega arith)
  sets_outside (a ∷ vs) l i j d (behind h) =
      sets_outside vs (set l i a) (suc i) j d (behind (omega arith)) ∙ get_or-set_other l i j a d (λ s. omega arith)

  pub sets_inside : (vs l : List A) (i n : ℕ) (d : A) → i + length vs ≤ length l → n < length vs → get_or (sets l i vs) (i + n) d ≡ get_or vs n d
  sets_inside [] l i n d fits h = absurd (not-suc-le-zero h)
  sets_inside (a ∷ vs) l i zero d fits h =
      ap (λ (j : ℕ). get_or (sets (set l i a) (suc i) vs) j d) (add-zero i) ∙ sets_outside vs (set l i a) (suc i) i d (before (omega arith))
      ∙ get_or-set_same l i a d (omega arith)
  sets_inside (a ∷ vs) l i (suc n) d fits h =
      ap (λ (j : ℕ). get_or (sets (set l i a) (suc i) vs) j d) (add-suc i n ∙ sym (suc-add i n))
      ∙ sets_inside vs (set l i a) (suc i) n d (simp length-set (omega arith)) (le_of_suc-le-suc h)
