-- Last call, worked back from the last contact as a limit.
--     limit_append                   one part of a chain at a time
--     limit_enough, limit_needed     ready below `limit_before`, and only then, the chain carries the file below the limit
--     last_call_is                   so the last call is one less
-- Assumes nothing.
use mathlib.Core.List.{List, [], ◌∷◌, ◌++◌}
use mathlib.Core.Path.{◌≡◌, refl, ap}
use Prim.Native.Nat.{ℕ, ◌-◌, ◌<◌}
use native.Mathlib.Omega.{arith}
use Rattle.units.specs.declared.Ask.{Ask}
use Rattle.service.specs.Service.{Service, contact_of, light_in, left_in}
use Rattle.timing.specs.Chain.{Carries, stays, hops, Allowed}
use Rattle.walk.specs.Figures.{IsLastCall}
use Rattle.timing.specs.Model.{back_over}
use Rattle.walk.specs.Model.{limit_before}
use Rattle.timing.proofs.ChainLaws.{carries_at}
use Rattle.timing.proofs.HopLaws.{back_enough, back_needed}

module _ (p : Service) (size : ℕ) where
  pub limit_append : (xs ys : List ℕ) (limit : ℕ) → limit_before p size (xs ++ ys) limit ≡ limit_before p size xs (limit_before p size ys limit)
  unfolding limit_before
  limit_append [] ys limit = refl
  limit_append (c ∷ xs) ys limit = ap (back_over (light_in p c) (left_in p c) (contact_of p c) size) (limit_append xs ys limit)

module _ (p : Service) (ask : Ask) where
  pub limit_needed : {u t : ℕ} {cs : List ℕ} {v r : ℕ} (limit : ℕ) → Carries p ask u t cs v r → r < limit → t < limit_before p ask.size cs limit
  unfolding limit_before
  limit_needed limit stays h = h
  limit_needed limit (hops _ _ _ e k) h = back_needed _ _ _ _ _ _ _ e (limit_needed limit k h)

  -- of a chain that carries the file from some time
  pub limit_enough : {u s : ℕ} {cs : List ℕ} {v q : ℕ} (limit t : ℕ) → Carries p ask u s cs v q → t < limit_before p ask.size cs limit
      → (r : ℕ) × Carries p ask u t cs v r × (r < limit)
  unfolding limit_before
  limit_enough limit t stays h = (t, stays, h)
  limit_enough limit t (hops i f b _ k) h =
      let (a, e, l) = back_enough _ _ _ _ _ t h in
      let (r, k', m) = limit_enough limit a.0 k l in
      (r, hops i f b e k', m)

  pub last_call_is : {chain : List ℕ} {r : ℕ} → Allowed p ask chain r → r < ask.deadline.0
      → IsLastCall p ask chain (limit_before p ask.size chain ask.deadline.0 - 1)
  last_call_is {chain} a h =
      let deadline : ℕ = ask.deadline.0 in
      let last : ℕ = limit_before p ask.size chain deadline - 1 in
      let before : ask.time.0 < limit_before p ask.size chain deadline = limit_needed deadline a.carried h in
      let (q, k, l) = limit_enough deadline last a.carried (omega arith) in
      record {
        not_before = omega arith;
        still = record { delivery = q; allowed = record { some_contact = a.some_contact; carried = carries_at last k }; early = l };
        greatest = λ s _ i. omega (arith, limit_needed deadline (carries_at ask.time.0 i.allowed.carried) i.early);
      }
