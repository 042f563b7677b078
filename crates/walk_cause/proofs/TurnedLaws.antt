-- Why a chain is turned down, in the request's words.
--     fits_exactly           a ranged contact fits a file exactly where the file is ready behind it at some time
--     elsewhere_exactly      23 is told exactly where every contact is good and the chain leads elsewhere, at the chain's length
--     fault_place            18 to 22 are told at the position of their contact
--     turned_place           no refusal is told at a position behind the chain
-- Assumes nothing.
use mathlib.Core.List.{List}
use mathlib.Core.Logic.{◌↔◌}
use mathlib.Core.Path.{◌≡◌, refl, sym, subst}
use Prim.Native.Nat.{ℕ, ◌≤◌}
use native.Mathlib.Nat.{le_refl}
use native.Mathlib.Omega.{arith}
use lib.ListN.{length}
use Rattle.units.specs.Refusals.{place_of}
use Rattle.units.specs.declared.Ask.{Ask}
use Rattle.units.specs.declared.Millis.{Millis}
use Rattle.units.specs.declared.Refusal.{Refusal}
use Rattle.units.specs.declared.Refusal.TheVariants.{EndsElsewhere}
use Rattle.std.specs.Prelude.{Some}
use Rattle.service.specs.Service.{Service, contact_of, light_in, left_in}
use Rattle.timing.specs.Hop.{start_on}
use Rattle.timing.proofs.AllowedLaws.{start_later, later_one, SentOver, Along, carries_exactly}
use Rattle.walk_cause.specs.Cause.{Fits, HasFault, no_contact, not_joined, excluded_node, not_ranged, not_fitting, TurnedDown, at_fault, elsewhere}

module _ (p : Service) (ask : Ask) where
  pub fits_exactly : (t c : ℕ) (l : Millis) → light_in p c ≡ Some l
      → Fits p ask t c ↔ ((s : ℕ) × SentOver (light_in p c) (left_in p c) (contact_of p c) ask.size t s)
  fits_exactly t c l ranged = (
    λ f. (
      _,
      record {
        light_time = l;
        ranged = ranged;
        start = start_on (contact_of p c) t;
        starts = start_later (contact_of p c) t;
        by_end = f.by_end;
        by_volume = f.by_volume;
        ready = refl;
      },
    ),
    λ o. record {
      by_end =
          let at : start_on (contact_of p c) t ≡ o.1.start = later_one (start_later (contact_of p c) t) o.1.starts in
          omega (arith, at, o.1.by_end);
      by_volume = o.1.by_volume;
    },
  )

  -- every contact is good, and the chain leads to another node than the destination; the empty one leads from the source nowhere
  pub record EndsAway (chain : List ℕ) : Type 0 where
    pub node : ℕ
    pub time : ℕ
    pub ready : ℕ → ℕ
    pub every_good : Along p ask ask.source.0 ask.time.0 chain ready node time
    pub away : node ≡ ask.destination.0 → ⊥

  pub elsewhere_exactly : (chain : List ℕ) (n : ℕ) → TurnedDown p ask chain (EndsElsewhere n) ↔ ((n ≡ length chain) × EndsAway chain)
  elsewhere_exactly chain n = (told, made)
    where
      told : {i : ℕ} → TurnedDown p ask chain (EndsElsewhere i) → (i ≡ length chain) × EndsAway chain
      told (at_fault h k f low) = elim f [ ]
      told (elsewhere {v} {r} k d) =
          let along = carries_exactly.0 k in
          (refl, record { node = v; time = r; ready = along.0; every_good = along.1; away = d })

      made : (n ≡ length chain) × EndsAway chain → TurnedDown p ask chain (EndsElsewhere n)
      made (e, a) =
          subst (λ (i : ℕ). TurnedDown p ask chain (EndsElsewhere i)) (sym e)
          (elsewhere (carries_exactly.1 (a.ready, a.every_good)) a.away)

module _ {p : Service} {ask : Ask} where
  pub fault_place : {u t i c : ℕ} {why : Refusal} → HasFault p ask u t i c why → place_of why ≡ i
  fault_place (no_contact n) = refl
  fault_place (not_joined l n) = refl
  fault_place (excluded_node l b) = refl
  fault_place (not_ranged l e) = refl
  fault_place (not_fitting l n) = refl

  pub turned_place : {chain : List ℕ} {why : Refusal} → TurnedDown p ask chain why → place_of why ≤ length chain
  turned_place (at_fault h k f low) = omega (arith, h, fault_place f)
  turned_place (elsewhere k d) = le_refl _
