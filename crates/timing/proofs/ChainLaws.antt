-- Chains of contacts: what `Carries` says, and that the model's `carry` computes it.
--     carries_determined                   where a chain leads, and when, is determined by where and when it sets out
--     carries_after                        never earlier than that
--     carries_sooner, carries_smaller      a file that is ready earlier, or is smaller, is carried too, and no later
--     carries_at                           the ask's own time plays no part
--     carry_sound, carry_complete, carry_never
--     tells_not                            the test that a test fails
--     allowed_delivery, allowed_never, allowed_determined      the same of an allowed chain
-- Assumes nothing.
use Rattle.std.specs.Prelude.{cond, Option, Some, None}
use mathlib.Core.Bool.{Bool, true, false, not}
use mathlib.Core.List.{List, [], ◌∷◌}
use mathlib.Core.Logic.{◌↔◌}
use mathlib.Core.Path.{◌≡◌, refl, subst, subst₂}
use Prim.Native.Nat.{ℕ, ◌≤◌, suc-le-suc, zero-le}
use native.Mathlib.Nat.{le_refl, le_trans}
use native.Mathlib.Omega.{arith}
use lib.Dec.{T, eqb}
use lib.ListN.{length}
use Rattle.units.specs.declared.Ask.{Ask}
use Rattle.units.specs.declared.Millis.{Millis}
use Rattle.plan.specs.Verdict.{Verdict, holds, fails}
use Rattle.plan.proofs.Verdicts.{tells_le, tells_eq, both, restated, holds_true}
use Rattle.service.specs.Service.{Service, Sound, contact_of, InPlan}
use Rattle.timing.specs.Chain.{Carries, stays, hops, Allowed, ask_at, ask_of}
use Rattle.timing.specs.Hop.{is_barred}
use Rattle.timing.specs.Model.{goes_on, over_contact, onward, carry, delivery_of}
use Rattle.service.proofs.Bounded.{contact_good}
use Rattle.timing.proofs.HopLaws.{hop_after, hop_sooner, hop_smaller}

same_ready : {x : Option Millis} {a b : Millis} → x ≡ Some a → x ≡ Some b → a.0 ≡ b.0
same_ready e f = cc

module _ {p : Service} {ask : Ask} where
  pub carries_determined : {u t : ℕ} {cs : List ℕ} {v r w s : ℕ} → Carries p ask u t cs v r → Carries p ask u t cs w s → (v ≡ w) × (r ≡ s)
  carries_determined stays stays = (refl, refl)
  carries_determined {w} {s} (hops _ _ _ e k) (hops {c} {cs} _ _ _ e' k') =
      carries_determined k (subst (λ n. Carries p ask (contact_of p c).to.0 n cs w s) (same_ready e' e) k')

  pub carries_after : {u t : ℕ} {cs : List ℕ} {v r : ℕ} → Carries p ask u t cs v r → t ≤ r
  carries_after stays = le_refl _
  carries_after (hops _ _ _ e k) = le_trans (hop_after _ _ _ _ _ _ e) (carries_after k)

  pub carries_sooner : {u s t : ℕ} {cs : List ℕ} {v r : ℕ} → s ≤ t → Carries p ask u t cs v r → (q : ℕ) × Carries p ask u s cs v q × (q ≤ r)
  carries_sooner h stays = (_, stays, h)
  carries_sooner h (hops i f b e k) =
      let (a, e', l) = hop_sooner _ _ _ _ h _ e in
      let (q, k', m) = carries_sooner l k in
      (q, hops i f b e' k', m)

  pub carries_at : {u t : ℕ} {cs : List ℕ} {v r : ℕ} (s : ℕ) → Carries p ask u t cs v r → Carries p (ask_at ask s) u t cs v r
  unfolding is_barred
  carries_at s stays = stays
  carries_at s (hops i f b e k) = hops i f b e (carries_at s k)

  -- a chain between two different nodes has a contact
  carries_some : {u t : ℕ} {cs : List ℕ} {v r : ℕ} → (u ≡ v → ⊥) → Carries p ask u t cs v r → 1 ≤ length cs
  carries_some differ stays = absurd (differ refl)
  carries_some differ (hops _ _ _ _ _) = suc-le-suc zero-le

pub carries_smaller : {p : Service} (ask : Ask) {m n u t : ℕ} {cs : List ℕ} {v r : ℕ} → Sound p → m ≤ n → Carries p (ask_of ask n) u t cs v r
    → (q : ℕ) × Carries p (ask_of ask m) u t cs v q × (q ≤ r)
unfolding is_barred
carries_smaller ask valid h stays = (_, stays, le_refl _)
carries_smaller {p} ask valid h (hops {c} i f b e k) =
    let (a, e', l) = hop_smaller _ _ _ (contact_good p valid c i).rate_least h _ _ e in
    let (s, k', l') = carries_smaller ask valid h k in
    let (q, k'', l'') = carries_sooner l k' in
    (q, hops i f b e' k'', le_trans l'' l')

-- the number names a contact of the plan that is from node u and not barred
record From (p : Service) (ask : Ask) (u c : ℕ) : Type 0 where
  in_plan : InPlan p c
  from : (contact_of p c).from.0 ≡ u
  unbarred : is_barred ask (contact_of p c) ≡ false

pub tells_not : (b : Bool) → Verdict (b ≡ false) (not b)
tells_not true = fails (λ e. subst T e tt)
tells_not false = holds refl

from_tells : (p : Service) (ask : Ask) (u c : ℕ) → Verdict (From p ask u c) (goes_on p ask u c)
unfolding goes_on
from_tells p ask u c =
    restated (λ q. record { in_plan = record { least = q.0.0.0; most = q.0.0.1 }; from = q.0.1; unbarred = q.1 })
    (λ g. (((g.in_plan.least, g.in_plan.most), g.from), g.unbarred))
    (both (both (both (tells_le 1 c) (tells_le c (length p.contacts))) (tells_eq (contact_of p c).from.0 u)) (tells_not (is_barred ask (contact_of p c))))

module _ (p : Service) (ask : Ask) where
  pub carry_sound : (u t : ℕ) (cs : List ℕ) (r : Millis) → carry p ask u t cs ≡ Some r → Carries p ask u t cs ask.destination.0 r.0
  unfolding carry
  carry_sound u t [] r e = go (eqb u ask.destination.0) (tells_eq _ _) e
    where
      go : (b : Bool) → Verdict (u ≡ ask.destination.0) b → cond b (Some (record { 0 = t })) None ≡ Some r
          → Carries p ask u t [] ask.destination.0 r.0
      go _ (holds h) e = let q : t ≡ r.0 = cc in subst₂ (λ v s. Carries p ask u t [] v s) h q stays
      go _ (fails h) e = let z : ◌≡◌ {A = ℕ} 0 1 = cc in absurd (omega arith)
  carry_sound u t (c ∷ cs) r e =
      go (goes_on p ask u c) (from_tells p ask u c) (over_contact p ask c t) refl (λ s. carry_sound (contact_of p c).to.0 s cs r) e
    where
      go : (b : Bool) → Verdict (From p ask u c) b → (a : Option Millis) → over_contact p ask c t ≡ a
          → ((s : ℕ) → carry p ask (contact_of p c).to.0 s cs ≡ Some r → Carries p ask (contact_of p c).to.0 s cs ask.destination.0 r.0)
          → cond b (onward a (λ s. carry p ask (contact_of p c).to.0 s cs)) None ≡ Some r
          → Carries p ask u t (c ∷ cs) ask.destination.0 r.0
      go _ (holds h) (Some s) q next e = hops h.in_plan h.from h.unbarred q (next s.0 e)
      go _ (holds h) None q next e = let z : ◌≡◌ {A = ℕ} 0 1 = cc in absurd (omega arith)
      go _ (fails h) a q next e = let z : ◌≡◌ {A = ℕ} 0 1 = cc in absurd (omega arith)

  carry_there : {u t : ℕ} {cs : List ℕ} {v r : ℕ} → v ≡ ask.destination.0 → Carries p ask u t cs v r → carry p ask u t cs ≡ Some (record { 0 = r })
  unfolding carry
  carry_there e stays = rw (holds_true (tells_eq _ _) e)
  carry_there e (hops {u} {c} i f b h k) =
      rw (holds_true (from_tells p ask u c) (record { in_plan = i; from = f; unbarred = b }), h) (carry_there e k)

  pub carry_complete : {u t : ℕ} {cs : List ℕ} {r : ℕ} → Carries p ask u t cs ask.destination.0 r → carry p ask u t cs ≡ Some (record { 0 = r })
  carry_complete k = carry_there refl k

  pub carry_never : {u t : ℕ} {cs : List ℕ} {r : ℕ} → carry p ask u t cs ≡ None → Carries p ask u t cs ask.destination.0 r → ⊥
  carry_never e k = let d = carry_complete k in let z : ◌≡◌ {A = ℕ} 0 1 = cc in omega arith

  pub allowed_delivery : (ask.source.0 ≡ ask.destination.0 → ⊥) → (chain : List ℕ) (r : Millis)
      → (delivery_of p ask chain ≡ Some r) ↔ Allowed p ask chain r.0
  unfolding delivery_of
  allowed_delivery differ chain r = (
    λ e.
        let k = carry_sound ask.source.0 ask.time.0 chain r e in
        record { some_contact = carries_some differ k; carried = k },
    λ a. carry_complete a.carried,
  )

  pub allowed_never : {chain : List ℕ} {r : ℕ} → delivery_of p ask chain ≡ None → Allowed p ask chain r → ⊥
  unfolding delivery_of
  allowed_never e a = carry_never e a.carried

  pub allowed_determined : {chain : List ℕ} {r s : ℕ} → Allowed p ask chain r → Allowed p ask chain s → r ≡ s
  allowed_determined a b = (carries_determined a.carried b.carried).1
