-- A plan with further contacts has all that the plan has.
--     further_serves      as they serve a call, where the same is used of each contact
-- Assumes nothing.
use mathlib.Core.List.{List}
use mathlib.Core.Path.{◌≡◌, sym, ap, ◌∙◌}
use Prim.Native.Nat.{ℕ, ◌-◌, ◌≤◌}
use native.Mathlib.Nat.{zero-add}
use native.Mathlib.Omega.{arith}
use Rattle.plan.specs.Light.{light_of}
use Rattle.plan.specs.Tables.{contact_at, plan_of}
use Rattle.plan.proofs.RowList.{length_rows, get_d_rows}
use Rattle.service.specs.Service.{Service, InPlan, blank, contact_of, light_in, left_in, volume, service_of}
use Rattle.service.proofs.ServiceLaws.{service_light, service_left}
use Rattle.calls_compared.specs.Compared.{Further}
use Rattle.calls_compared.proofs.Easier.{Serves}

-- the plan of lent tables, as it serves a call
abbrev lent_service : List ℕ → ℕ → List ℕ → ℕ → (ℕ → ℕ) → Service
lent_service contacts m ranges n used = service_of (plan_of contacts m ranges n) used

module _ (contacts : List ℕ) (m : ℕ) (ranges : List ℕ) (n : ℕ) (used : ℕ → ℕ) (c : ℕ) where
  -- a number that names a contact is 1 to m
  named_most : InPlan (lent_service contacts m ranges n used) c → c ≤ m
  unfolding service_of plan_of
  named_most i = omega (arith, i.most, length_rows (contact_at contacts) 0 m)

  most_named : 1 ≤ c → c ≤ m → InPlan (lent_service contacts m ranges n used) c
  unfolding service_of plan_of
  most_named l h = record { least = l; most = omega (arith, h, length_rows (contact_at contacts) 0 m) }

  -- and names the one in the row of that place
  contact_row : 1 ≤ c → c ≤ m → contact_of (lent_service contacts m ranges n used) c ≡ contact_at contacts (c - 1)
  unfolding service_of plan_of
  contact_row l h = get_d_rows (contact_at contacts) 0 m (c - 1) blank (omega arith) ∙ ap (contact_at contacts) (zero-add (c - 1))

module _ {contacts : List ℕ} {m : ℕ} {contacts' : List ℕ} {m' : ℕ} (ranges : List ℕ) (n : ℕ) (used : ℕ → ℕ) (further : Further contacts m contacts' m')
    (c : ℕ) (i : InPlan (lent_service contacts m ranges n used) c) where
  below : c ≤ m
  below = named_most contacts m ranges n used c i

  further_in_plan : InPlan (lent_service contacts' m' ranges n used) c
  further_in_plan = most_named contacts' m' ranges n used c i.least (omega (arith, below, further.no_fewer))

  further_contact : contact_of (lent_service contacts' m' ranges n used) c ≡ contact_of (lent_service contacts m ranges n used) c
  further_contact =
      contact_row contacts' m' ranges n used c i.least (omega (arith, below, further.no_fewer))
      ∙ further.same (c - 1) (omega (arith, below, i.least))
      ∙ sym (contact_row contacts m ranges n used c i.least below)

  further_light : light_in (lent_service contacts' m' ranges n used) c ≡ light_in (lent_service contacts m ranges n used) c
  unfolding plan_of
  further_light =
      service_light (plan_of contacts' m' ranges n) used c further_in_plan
      ∙ ap (light_of (plan_of contacts m ranges n).ranges) further_contact
      ∙ sym (service_light (plan_of contacts m ranges n) used c i)

  further_left : left_in (lent_service contacts m ranges n used) c ≤ left_in (lent_service contacts' m' ranges n used) c
  further_left =
      let there = service_left (plan_of contacts' m' ranges n) used c further_in_plan in
      let here = service_left (plan_of contacts m ranges n) used c i in
      let same : volume (contact_of (lent_service contacts' m' ranges n used) c) ≡ volume (contact_of (lent_service contacts m ranges n used) c) = ap volume further_contact in
      omega (arith, there, here, same)

pub further_serves : {contacts : List ℕ} {m : ℕ} {contacts' : List ℕ} {m' : ℕ} (ranges : List ℕ) (n : ℕ) (used : ℕ → ℕ) → Further contacts m contacts' m'
    → Serves (service_of (plan_of contacts m ranges n) used) (service_of (plan_of contacts' m' ranges n) used)
further_serves ranges n used further c i = record {
  in_plan = further_in_plan ranges n used further c i;
  contact = further_contact ranges n used further c i;
  light = further_light ranges n used further c i;
  left = further_left ranges n used further c i;
}
