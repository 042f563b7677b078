-- Why a chain is turned down. A contact is judged as it is reached: where the file is and when it is ready there is what the good contacts before it
-- give.
--     Fits            the file, ready before a contact at t, fits it
--     HasFault        a fault of the contact of a number, reached at node u at time t, the i-th of the chain
--     TurnedDown      the first contact at fault and the lowest of its faults, or that the chain ends elsewhere
-- Assumes nothing.
use Rattle.std.specs.Prelude.{true, List, ◌≡◌, ℕ, suc, ◌+◌, ◌≤◌, ◌<◌, length, get_or, take, None}
use Rattle.units.specs.Refusals.{number_of}
use Rattle.units.specs.declared.Ask.{Ask}
use Rattle.units.specs.declared.Refusal.{Refusal}
use Rattle.units.specs.declared.Refusal.TheVariants.{NoContact, NotJoined, ExcludedNode, NotRanged, NotFitting, EndsElsewhere}
use Rattle.service.specs.Service.{Service, contact_of, light_in, left_in, InPlan}
use Rattle.timing.specs.Chain.{Carries}
use Rattle.timing.specs.Hop.{consumed, sent, start_on, is_barred}

-- start plus sending time is at most the contact's end, and the consumption at most what is left on it
pub record Fits (p : Service) (ask : Ask) (t c : ℕ) : Type 0 where
  pub by_end : start_on (contact_of p c) t + sent ask.size (contact_of p c).rate ≤ (contact_of p c).end.0
  pub by_volume : consumed ask.size ≤ left_in p c

-- several may hold of one contact; one that is not in the plan has no other fault
pub data HasFault (p : Service) (ask : Ask) (u t i c : ℕ) : Refusal → Type 0 where
  no_contact : (InPlan p c → ⊥) → HasFault p ask u t i c (NoContact i)
  not_joined : InPlan p c → ((contact_of p c).from.0 ≡ u → ⊥) → HasFault p ask u t i c (NotJoined i)
  excluded_node : InPlan p c → is_barred ask (contact_of p c) ≡ true → HasFault p ask u t i c (ExcludedNode i)
  not_ranged : InPlan p c → light_in p c ≡ None → HasFault p ask u t i c (NotRanged i)
  not_fitting : InPlan p c → (Fits p ask t c → ⊥) → HasFault p ask u t i c (NotFitting i)

-- positions are counted from 1
pub data TurnedDown (p : Service) (ask : Ask) (chain : List ℕ) : Refusal → Type 0 where
  -- the contacts before it carry the file to it, so none of them has a fault
  at_fault : {u t i : ℕ} {why : Refusal} → i < length chain → Carries p ask ask.source.0 ask.time.0 (take i chain) u t
      → HasFault p ask u t (suc i) (get_or chain i 0) why
      → ((other : Refusal) → HasFault p ask u t (suc i) (get_or chain i 0) other → number_of why ≤ number_of other)
      → TurnedDown p ask chain why
  -- every contact is good: at the chain's length, 0 if it is empty
  elsewhere : {v r : ℕ} → Carries p ask ask.source.0 ask.time.0 chain v r → (v ≡ ask.destination.0 → ⊥)
      → TurnedDown p ask chain (EndsElsewhere (length chain))
