-- What the code of the cause knows of the model.
--     judged_in_plan, judged_bounded                 a contact that is judged good names one, and its time has room in a word
--     cause_goes, cause_stops, cause_ends            the chain from place i on, by what its contact there is judged
-- Assumes nothing.
use mathlib.Core.List.{List, ◌∷◌}
use mathlib.Core.Path.{◌≡◌, ap, ◌∙◌}
use Prim.Native.Nat.{ℕ, ◌+◌, ◌≤◌, ◌<◌}
use native.Mathlib.Nat.{le_antisymm}
use native.Mathlib.Numerals.{add-one}
use native.Mathlib.Omega.{arith}
use lib.ListN.{length, get_or, drop, drop_of_length-le}
use lib.Seq.{drop-cons}
use Rattle.units.specs.Limits.{last_time, most_light}
use Rattle.units.specs.declared.Ask.{Ask}
use Rattle.units.specs.declared.Millis.{Millis}
use Rattle.units.specs.declared.Refusal.{Refusal}
use Rattle.units.specs.declared.Refusal.TheVariants.{EndsElsewhere}
use Rattle.std.specs.Prelude.{Ok, Err}
use Rattle.plan.specs.declared.rows.Contact.{Contact}
use Rattle.service.specs.Service.{Service, Sound, contact_of, light_in, left_in, InPlan}
use Rattle.service.proofs.Bounded.{light_good, contact_good}
use Rattle.timing.proofs.HopLaws.{hop_bounded}
use Rattle.walk_cause.specs.Model.{judged, cause_from}
use Rattle.walk_cause.proofs.CauseLaws.{judged_passes}

module _ (p : Service) (ask : Ask) (u t : ℕ) where
  pub judged_in_plan : (i c : ℕ) (s : Millis) → judged p ask u t i c ≡ Ok s → InPlan p c
  judged_in_plan i c s e = (judged_passes p ask u t i c s e).in_plan

  pub judged_bounded : Sound p → (i c : ℕ) (s : Millis) → judged p ask u t i c ≡ Ok s → s.0 ≤ last_time + most_light
  judged_bounded v i c s e =
      let g = judged_passes p ask u t i c s e in
      omega (
        arith,
        (contact_good p v c g.in_plan).ends,
        hop_bounded (light_in p c) (left_in p c) (contact_of p c) (light_good p v c g.in_plan) ask.size t s g.hop,
      )

  module _ (chain : List ℕ) (i : ℕ) where
    from_here : i < length chain → cause_from p ask u t i (drop i chain) ≡ cause_from p ask u t i (get_or chain i 0 ∷ drop (i + 1) chain)
    from_here h = rw (add-one, drop-cons chain i 0)

    pub cause_stops : i < length chain → (why : Refusal) → judged p ask u t (i + 1) (get_or chain i 0) ≡ Err why → cause_from p ask u t i (drop i chain) ≡ why
    unfolding cause_from
    cause_stops h why e = from_here h ∙ rw e

    pub cause_goes : i < length chain → (s : Millis) (x : Contact) → judged p ask u t (i + 1) (get_or chain i 0) ≡ Ok s → x ≡ contact_of p (get_or chain i 0)
        → cause_from p ask u t i (drop i chain) ≡ cause_from p ask x.to.0 s.0 (i + 1) (drop (i + 1) chain)
    unfolding cause_from
    cause_goes h s x e ex = from_here h ∙ rw (e, ex)

    pub cause_ends : i ≤ length chain → length chain ≤ i → cause_from p ask u t i (drop i chain) ≡ EndsElsewhere (length chain)
    unfolding cause_from
    cause_ends h l = rw (drop_of_length-le chain l) (ap EndsElsewhere (le_antisymm h l))
