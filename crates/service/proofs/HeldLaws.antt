-- What a served plan holds, by the words of its tables.
--     length_served                    as many contacts as it counts
--     contact_lent, light_lent, left_lent      what it holds for a contact of the plan
--     named_in_plan, named_at_most     a number from 1 to the count names a contact of the plan
--     held_sound .. held_left          the same of a served plan, whose service is sound
-- Assumes nothing.
use mathlib.Core.List.{List}
use mathlib.Core.Path.{◌≡◌, sym, ap, ◌∙◌, subst}
use Prim.Native.Nat.{ℕ, ◌-◌, ◌≤◌, ◌<◌}
use native.Mathlib.Nat.{zero-add}
use native.Mathlib.Omega.{arith}
use lib.ListN.{length}
use Rattle.std.specs.Prelude.{None}
use Rattle.plan.specs.Tables.{contact_at}
use Rattle.plan.proofs.RowList.{length_rows, get_d_rows}
use Rattle.service.specs.declared.tables.ServedPlan.{ServedPlan}
use Rattle.service.specs.Held.{service_in}
use Rattle.service.specs.Service.{Sound, blank, contact_of, light_in, left_in, InPlan}
use Rattle.service.specs.Tables.{light_at, left_at, served}

module _ (contacts : List ℕ) (m : ℕ) (lights lefts : List ℕ) where
  pub length_served : length (served contacts m lights lefts).contacts ≡ m
  unfolding served
  length_served = length_rows (contact_at contacts) 0 m

  module _ (c : ℕ) where
    pub named_in_plan : 1 ≤ c → c ≤ m → InPlan (served contacts m lights lefts) c
    named_in_plan least most = record { least = least; most = subst (λ (k : ℕ). c ≤ k) (sym length_served) most }

    pub named_at_most : InPlan (served contacts m lights lefts) c → c ≤ m
    named_at_most i = subst (λ (k : ℕ). c ≤ k) length_served i.most

    module _ (i : InPlan (served contacts m lights lefts) c) where
      named_below : c - 1 < m
      named_below = omega (arith, i.least, i.most, length_served)

      pub contact_lent : contact_of (served contacts m lights lefts) c ≡ contact_at contacts (c - 1)
      unfolding served
      contact_lent = get_d_rows (contact_at contacts) 0 m (c - 1) blank named_below ∙ ap (contact_at contacts) (zero-add (c - 1))

      pub light_lent : light_in (served contacts m lights lefts) c ≡ light_at lights (c - 1)
      unfolding served
      light_lent = get_d_rows (light_at lights) 0 m (c - 1) None named_below ∙ ap (light_at lights) (zero-add (c - 1))

      pub left_lent : left_in (served contacts m lights lefts) c ≡ left_at lefts (c - 1)
      unfolding served
      left_lent = get_d_rows (left_at lefts) 0 m (c - 1) 0 named_below ∙ ap (left_at lefts) (zero-add (c - 1))

module _ (s : ServedPlan) where
  pub held_sound : Sound (service_in s)
  unfolding service_in
  held_sound = s.sound.sound

  pub held_counted : length (service_in s).contacts ≡ s.contact_count
  unfolding service_in
  held_counted = length_served s.contacts.now s.contact_count s.lights.now s.lefts.now

  module _ (c : ℕ) where
    pub held_named : 1 ≤ c → c ≤ s.contact_count → InPlan (service_in s) c
    unfolding service_in
    held_named = named_in_plan s.contacts.now s.contact_count s.lights.now s.lefts.now c

    module _ (i : InPlan (service_in s) c) where
      pub held_at_most : c ≤ s.contact_count
      unfolding service_in
      held_at_most = named_at_most s.contacts.now s.contact_count s.lights.now s.lefts.now c i

      pub held_contact : contact_of (service_in s) c ≡ contact_at s.contacts.now (c - 1)
      unfolding service_in
      held_contact = contact_lent s.contacts.now s.contact_count s.lights.now s.lefts.now c i

      pub held_light : light_in (service_in s) c ≡ light_at s.lights.now (c - 1)
      unfolding service_in
      held_light = light_lent s.contacts.now s.contact_count s.lights.now s.lefts.now c i

      pub held_left : left_in (service_in s) c ≡ left_at s.lefts.now (c - 1)
      unfolding service_in
      held_left = left_lent s.contacts.now s.contact_count s.lights.now s.lefts.now c i
