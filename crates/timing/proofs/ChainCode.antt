-- What the loop along a chain knows of the model.
--     steps_in_plan     a number that goes on names a contact of the plan
--     step_bounded      behind a contact of a valid plan the file is ready at a time that has room in a word
--     carry_goes, carry_stops, carry_ends, carry_misses      the chain from place i on, by what the contact there does
-- Assumes nothing.
use Rattle.std.specs.Prelude.{cond, Option, Some, None}
use mathlib.Core.Bool.{Bool, true, false, ◌&&◌}
use mathlib.Core.List.{List, ◌∷◌}
use mathlib.Core.Path.{◌≡◌, refl, sym, ap, ◌∙◌}
use Prim.Native.Nat.{ℕ, ◌+◌, ◌≤◌, ◌<◌}
use native.Mathlib.Numerals.{add-one}
use native.Mathlib.Omega.{arith}
use borrow.Author.Tests.{leb-true}
use lib.Dec.{eqb}
use lib.ListN.{length, get_or, drop, drop_of_length-le}
use lib.Seq.{drop-cons}
use Rattle.units.specs.Limits.{last_time, most_light}
use Rattle.units.specs.declared.Ask.{Ask}
use Rattle.units.specs.declared.Millis.{Millis}
use Rattle.plan.specs.declared.rows.Contact.{Contact}
use Rattle.service.specs.Service.{Service, Sound, contact_of, light_in, left_in, InPlan}
use Rattle.timing.specs.Model.{goes_on, over_contact, step_over, carry}
use Rattle.service.proofs.Bounded.{light_good, contact_good}
use Rattle.timing.proofs.HopLaws.{hop_bounded}

-- the parts of a test that passes
both_pass : (a b : Bool) → a && b ≡ true → (a ≡ true) × (b ≡ true)
both_pass true b e = (refl, e)
both_pass false true e = (e, refl)
both_pass false false e = (e, e)

goes_in_plan : (p : Service) (ask : Ask) (u c : ℕ) → goes_on p ask u c ≡ true → InPlan p c
unfolding goes_on
goes_in_plan p ask u c e =
    let named = both_pass _ _ (both_pass _ _ (both_pass _ _ e).0).0 in
    record { least = leb-true 1 c named.0; most = leb-true c (length p.contacts) named.1 }

-- the way that a step went
data Stepped (p : Service) (ask : Ask) (u t c : ℕ) (a : Option Millis) : Type 0 where
  went : goes_on p ask u c ≡ true → over_contact p ask c t ≡ a → Stepped p ask u t c a
  stayed : goes_on p ask u c ≡ false → None ≡ a → Stepped p ask u t c a

stepped : (p : Service) (ask : Ask) (u t c : ℕ) (a : Option Millis) → step_over p ask u t c ≡ a → Stepped p ask u t c a
unfolding step_over
stepped p ask u t c a = go (goes_on p ask u c) refl
  where
    go : (b : Bool) → goes_on p ask u c ≡ b → cond b (over_contact p ask c t) None ≡ a → Stepped p ask u t c a
    go true e f = went e f
    go false e f = stayed e f

pub steps_in_plan : (p : Service) (ask : Ask) (u t c : ℕ) (s : Millis) → step_over p ask u t c ≡ Some s → InPlan p c
steps_in_plan p ask u t c s e = go (stepped p ask u t c (Some s) e)
  where
    go : Stepped p ask u t c (Some s) → InPlan p c
    go (went g o) = goes_in_plan p ask u c g
    go (stayed g o) = let z : ◌≡◌ {A = ℕ} 0 1 = cc in absurd (omega arith)

pub step_bounded : (p : Service) → Sound p → (ask : Ask) (u t c : ℕ) (s : Millis) → step_over p ask u t c ≡ Some s → s.0 ≤ last_time + most_light
unfolding over_contact
step_bounded p v ask u t c s e = go (stepped p ask u t c (Some s) e)
  where
    go : Stepped p ask u t c (Some s) → s.0 ≤ last_time + most_light
    go (went g o) =
        let i = goes_in_plan p ask u c g in
        omega (arith, (contact_good p v c i).ends, hop_bounded (light_in p c) (left_in p c) (contact_of p c) (light_good p v c i) ask.size t s o)
    go (stayed g o) = let z : ◌≡◌ {A = ℕ} 0 1 = cc in absurd (omega arith)

carry_ready : (p : Service) (ask : Ask) (u t c : ℕ) (cs : List ℕ) (s : Millis) → step_over p ask u t c ≡ Some s
    → carry p ask u t (c ∷ cs) ≡ carry p ask (contact_of p c).to.0 s.0 cs
unfolding carry
carry_ready p ask u t c cs s e = go (stepped p ask u t c (Some s) e)
  where
    go : Stepped p ask u t c (Some s) → carry p ask u t (c ∷ cs) ≡ carry p ask (contact_of p c).to.0 s.0 cs
    go (went g o) = rw (g, o)
    go (stayed g o) = cc

carry_unready : (p : Service) (ask : Ask) (u t c : ℕ) (cs : List ℕ) → step_over p ask u t c ≡ None → carry p ask u t (c ∷ cs) ≡ None
unfolding carry
carry_unready p ask u t c cs e = go (stepped p ask u t c None e)
  where
    go : Stepped p ask u t c None → carry p ask u t (c ∷ cs) ≡ None
    go (went g o) = rw (g, o)
    go (stayed g o) = rw g

-- the chain from place i on
from_place : (chain : List ℕ) (i : ℕ) → i < length chain → drop i chain ≡ get_or chain i 0 ∷ drop (i + 1) chain
from_place chain i h = drop-cons chain i 0 h ∙ ap (λ (k : ℕ). get_or chain i 0 ∷ drop k chain) (sym (add-one i))

module _ (p : Service) (ask : Ask) (u t : ℕ) (chain : List ℕ) (i : ℕ) where
  pub carry_goes : (s : Millis) (x : Contact) → i < length chain → step_over p ask u t (get_or chain i 0) ≡ Some s → x ≡ contact_of p (get_or chain i 0)
      → carry p ask u t (drop i chain) ≡ carry p ask x.to.0 s.0 (drop (i + 1) chain)
  carry_goes s x h e ex =
      ap (carry p ask u t) (from_place chain i h)
      ∙ carry_ready p ask u t (get_or chain i 0) (drop (i + 1) chain) s e
      ∙ ap (λ (y : Contact). carry p ask y.to.0 s.0 (drop (i + 1) chain)) (sym ex)

  pub carry_stops : i < length chain → step_over p ask u t (get_or chain i 0) ≡ None → carry p ask u t (drop i chain) ≡ None
  carry_stops h e = ap (carry p ask u t) (from_place chain i h) ∙ carry_unready p ask u t (get_or chain i 0) (drop (i + 1) chain) e

  pub carry_ends : length chain ≤ i → eqb u ask.destination.0 ≡ true → carry p ask u t (drop i chain) ≡ Some (record { 0 = t })
  unfolding carry
  carry_ends h e = ap (carry p ask u t) (drop_of_length-le chain h) ∙ rw e

  pub carry_misses : length chain ≤ i → eqb u ask.destination.0 ≡ false → carry p ask u t (drop i chain) ≡ None
  unfolding carry
  carry_misses h e = ap (carry p ask u t) (drop_of_length-le chain h) ∙ rw e
