-- What is left on a contact, with its sign, and what a service holds of it.
--     left_cut         a service holds what is left, and 0 where that is below zero
--     left_serves      so a file of at least one byte fits what the service holds exactly where it is at most what is left
-- Assumes nothing.
use mathlib.Core.Bool.{Bool, cond}
use mathlib.Core.Logic.{◌↔◌}
use mathlib.Core.Path.{◌≡◌, ◌∙◌}
use Prim.Native.Nat.{ℕ, zero, suc, ◌-◌, ◌≤◌, ◌<◌}
use native.Mathlib.Omega.{arith}
use lib.Dec.{ltb, leb→le, le→leb}
use lib.IntN.{ℤ, pos, negsuc, ◌-ℤ◌}
use lib.Signed.{◌≤ℤ◌}
use Rattle.plan.specs.Plan.{Plan}
use Rattle.plan.specs.Verdict.{Verdict, holds, fails}
use Rattle.plan.proofs.Verdicts.{tells_lt}
use Rattle.service.specs.Service.{left_in, left_on, service_of, InPlan}
use Rattle.service.proofs.ServiceLaws.{service_left}

-- the number, and 0 for one below zero
abbrev pub at_least_zero : ℤ → ℕ
at_least_zero (pos n) = n
at_least_zero (negsuc n) = 0

less_cut : (v u : ℕ) → v - u ≡ at_least_zero (pos v -ℤ pos u)
less_cut v zero = omega arith
less_cut v (suc u) = go (ltb v (suc u)) (tells_lt v (suc u))
  where
    go : (b : Bool) → Verdict (v < suc u) b → v - suc u ≡ at_least_zero (cond b (negsuc (suc u - suc v)) (pos (v - suc u)))
    go _ (holds h) = omega arith
    go _ (fails h) = omega arith

fits_cut : (n : ℕ) (left : ℤ) → 1 ≤ n → (n ≤ at_least_zero left) ↔ (pos n ≤ℤ left)
fits_cut n (pos m) h = (λ l. record { le = le→leb n m l }, λ l. leb→le n m l.le)
fits_cut n (negsuc m) h = (λ l. absurd (omega arith), λ l. absurd l.le)

module _ (p : Plan) (used : ℕ → ℕ) (c : ℕ) (i : InPlan (service_of p used) c) where
  pub left_cut : left_in (service_of p used) c ≡ at_least_zero (left_on p used c)
  unfolding service_of
  left_cut = service_left p used c i ∙ less_cut _ (used c)

  pub left_serves : (n : ℕ) → 1 ≤ n → (n ≤ left_in (service_of p used) c) ↔ (pos n ≤ℤ left_on p used c)
  left_serves n h = rw left_cut (fits_cut n (left_on p used c) h)
