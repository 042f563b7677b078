-- What the code of last call knows of the model.
--     limit_none                 a chain with no contact
--     limit_part, limit_one      a chain with a part taken off its end, and a part that is one contact
--     each_front, each_part, each_last      what holds of each element of a list holds of each of its first, of those after them, and of the last
--     carries_named              every number of a chain that carries names a contact of the plan
-- Assumes nothing.
use mathlib.Core.List.{List, [], ◌∷◌, ◌++◌}
use mathlib.Core.Path.{◌≡◌, refl, sym, ap, ◌∙◌, subst}
use Prim.Native.Nat.{ℕ, zero, suc, ◌+◌}
use native.Mathlib.Nat.{not-suc-le-zero, le_of_suc-le-suc}
use native.Mathlib.Omega.{arith}
use lib.ListN.{length, get_or, length-append, get_or-append}
use lib.Seq.{get_or-append-add}
use Rattle.units.specs.declared.Ask.{Ask}
use Rattle.plan.specs.Plan.{Each}
use Rattle.service.specs.Service.{Service, InPlan}
use Rattle.timing.specs.Chain.{Carries, stays, hops}
use Rattle.walk.specs.Model.{limit_over, limit_before}
use Rattle.walk.proofs.LastCallLaws.{limit_append}

module _ (p : Service) (size : ℕ) where
  pub limit_none : (xs : List ℕ) (limit : ℕ) → length xs ≡ 0 → limit ≡ limit_before p size xs limit
  unfolding limit_before
  limit_none [] limit e = refl
  limit_none (x ∷ xs) limit e = absurd (omega arith)

  -- one part of a chain at a time, from its end
  pub limit_part : (chain front part : List ℕ) (limit before : ℕ) → chain ≡ front ++ part → before ≡ limit_before p size part limit
      → limit_before p size chain limit ≡ limit_before p size front before
  limit_part chain front part limit before e eb =
      ap (λ (xs : List ℕ). limit_before p size xs limit) e ∙ limit_append p size front part limit ∙ ap (limit_before p size front) (sym eb)

  -- a part that is one contact
  pub limit_one : (c limit : ℕ) → limit_over p size c limit ≡ limit_before p size (c ∷ []) limit
  unfolding limit_before
  limit_one c limit = refl

module _ (P : ℕ → Type 0) (xs front part : List ℕ) (e : xs ≡ front ++ part) (each : Each P xs) where
  pub each_front : Each P front
  unfolding Each
  each_front blank k h =
      subst P (ap (λ (ys : List ℕ). get_or ys k blank) e ∙ get_or-append front part blank k h) (each blank k (omega (arith, ap length e, length-append front part)))

  pub each_part : Each P part
  unfolding Each
  each_part blank k h =
      subst P (ap (λ (ys : List ℕ). get_or ys (length front + k) blank) e ∙ get_or-append-add front part k blank)
      (each blank (length front + k) (omega (arith, ap length e, length-append front part)))

pub each_last : (P : ℕ → Type 0) (xs front : List ℕ) (x : ℕ) → xs ≡ front ++ x ∷ [] → Each P xs → P x
unfolding Each
each_last P xs front x e each = each_part P xs front (x ∷ []) e each 0 0 (omega arith)

module _ (p : Service) (ask : Ask) where
  pub carries_named : {u t v r : ℕ} {cs : List ℕ} → Carries p ask u t cs v r → Each (InPlan p) cs
  unfolding Each
  carries_named stays blank k h = absurd (not-suc-le-zero h)
  carries_named (hops i f b e more) blank zero h = i
  carries_named (hops i f b e more) blank (suc k) h = carries_named more blank k (le_of_suc-le-suc h)
