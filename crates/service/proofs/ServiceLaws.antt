-- What a plan is as it serves an ask.
--     get_d_mapped, rows_are                             an element of a mapped list, and rows that are a list
--     length_lefts, get_d_lefts                          what is left on contacts from a number on
--     service_contact, service_light, service_left      what it holds for a contact
--     left_exactly                                      what fits what is left
--     volume_bounds                                     the volume is rounded down
--     light_good, service_sound                         the plan is valid: every light time is in its range, and the service is sound
--     service_has_light                                 the light time that it holds for a contact is the contact's
--     is_service                                        tables that hold it hold a sound service
-- Assumes nothing.
use mathlib.Core.List.{List, [], ◌∷◌, map}
use mathlib.Core.Logic.{◌↔◌}
use mathlib.Core.Path.{◌≡◌, refl, sym, ap, ◌∙◌, subst}
use Prim.Native.Nat.{ℕ, zero, suc, ◌+◌, ◌-◌, ◌*◌, ◌%◌, ◌≤◌, ◌<◌}
use native.Mathlib.Nat.{zero-add, not-suc-le-zero, le_of_suc-le-suc, div-add-mod', mod-lt}
use native.Mathlib.Omega.{arith}
use lib.Dec.{lit≤}
use lib.ListN.{length, get_or, length-map}
use lib.Seq.{ext_get_or}
use Rattle.plan.specs.declared.rows.Contact.{Contact}
use Rattle.std.specs.Prelude.{Option, Some, None}
use Rattle.units.specs.declared.Millis.{Millis}
use Rattle.plan.specs.Light.{HasLight, light_of}
use Rattle.plan.specs.Plan.{Plan, Each, Valid}
use Rattle.plan.specs.Tables.{rows_from, IsPlan, plan_of}
use Rattle.plan.proofs.Ranging.{light_has, light_most}
use Rattle.plan.proofs.RowList.{length_rows, get_d_rows}
use Rattle.service.specs.Service.{blank, contact_of, light_in, left_in, volume, lefts_from, service_of, InPlan, LightGood, Sound}
use Rattle.service.specs.Tables.{served, IsService}

-- ---- what it holds for a contact

-- an element of a mapped list, whatever stands for none
pub get_d_mapped : {A B : Type 0} (f : A → B) (xs : List A) (k : ℕ) (a : A) (b : B) → k < length xs → get_or (map f xs) k b ≡ f (get_or xs k a)
get_d_mapped f [] k a b h = absurd (not-suc-le-zero h)
get_d_mapped f (x ∷ xs) zero a b h = refl
get_d_mapped f (x ∷ xs) (suc k) a b h = get_d_mapped f xs k a b (le_of_suc-le-suc h)

-- rows that a list has one by one are that list
pub rows_are : {A : Type 0} (row : ℕ → A) (n : ℕ) (xs : List A) (d : A) → length xs ≡ n → ((k : ℕ) → k < n → row k ≡ get_or xs k d) → rows_from row 0 n ≡ xs
rows_are row n xs d long same =
    ext_get_or d (rows_from row 0 n) xs (length_rows row 0 n ∙ sym long)
    (λ k h.
    let below : k < n = rw (length_rows row 0 n) at h in
    get_d_rows row 0 n k d below ∙ ap row (zero-add k) ∙ same k below)

pub length_lefts : (used : ℕ → ℕ) (n : ℕ) (cs : List Contact) → length (lefts_from used n cs) ≡ length cs
unfolding lefts_from
length_lefts used n [] = refl
length_lefts used n (c ∷ cs) = ap suc (length_lefts used (suc n) cs)

pub get_d_lefts : (used : ℕ → ℕ) (n : ℕ) (cs : List Contact) (k : ℕ) → k < length cs → get_or (lefts_from used n cs) k 0 ≡ volume (get_or cs k blank) - used (n + k)
unfolding lefts_from
get_d_lefts used n [] k h = absurd (not-suc-le-zero h)
get_d_lefts used n (c ∷ cs) zero h = ap (λ (i : ℕ). volume c - used i) (omega arith)
get_d_lefts used n (c ∷ cs) (suc k) h =
    let e : suc n + k ≡ n + suc k = omega arith in
    get_d_lefts used (suc n) cs k (le_of_suc-le-suc h) ∙ ap (λ (i : ℕ). volume (get_or cs k blank) - used i) e

module _ (p : Plan) (used : ℕ → ℕ) (c : ℕ) where
  pub service_contact : contact_of (service_of p used) c ≡ get_or p.contacts (c - 1) blank
  unfolding service_of
  service_contact = refl

  module _ (i : InPlan (service_of p used) c) where
    named_below : c - 1 < length p.contacts
    unfolding service_of
    named_below = omega (arith, i.least, i.most)

    pub service_light : light_in (service_of p used) c ≡ light_of p.ranges (contact_of (service_of p used) c)
    unfolding service_of
    service_light = get_d_mapped (light_of p.ranges) p.contacts (c - 1) blank None named_below

    pub service_left : left_in (service_of p used) c ≡ volume (contact_of (service_of p used) c) - used c
    unfolding service_of
    service_left =
        let e : 1 + (c - 1) ≡ c = omega (arith, i.least) in
        get_d_lefts used 1 p.contacts (c - 1) named_below ∙ ap (λ (n : ℕ). volume (get_or p.contacts (c - 1) blank) - used n) e

-- a file of at least one byte fits what is left exactly where it and what is used are at most the volume
pub left_exactly : (n v u : ℕ) → 1 ≤ n → (n ≤ v - u) ↔ (n + u ≤ v)
left_exactly n v u h = (λ f. omega arith, λ f. omega arith)

-- the volume is rate times length over 1000, rounded down: so many bytes take no more than the contact's length, and one more would
pub volume_bounds : (c : Contact)
    → (volume c * 1000 ≤ c.rate * (c.end.0 - c.start.0)) × (c.rate * (c.end.0 - c.start.0) < (volume c + 1) * 1000)
unfolding volume
volume_bounds c =
    let carried : ℕ = c.rate * (c.end.0 - c.start.0) in
    let parts = div-add-mod' carried 1000 in
    let rest : carried % 1000 < 1000 = mod-lt carried (lit≤ tt) in
    (omega (arith, parts, rest), omega (arith, parts, rest))

-- ---- soundness

pub light_good : (p : Plan) → Valid p → (c : Contact) → LightGood (light_of p.ranges c)
light_good p v c = go (light_of p.ranges c) refl
  where
    go : (light : Option Millis) → light_of p.ranges c ≡ light → LightGood light
    go (Some l) e = light_most p v c l e
    go None e = tt

pub service_sound : (p : Plan) → Valid p → (used : ℕ → ℕ) → Sound (service_of p used)
unfolding service_of Each
service_sound p v used = record {
  contacts_most = v.contacts_most;
  contacts_good = v.contacts_good;
  lights_counted = length-map p.contacts (light_of p.ranges);
  lights_good = λ light k h.
      let below : k < length p.contacts = rw (length-map p.contacts (light_of p.ranges)) at h in
      rw (get_d_mapped (light_of p.ranges) p.contacts k blank light below) (light_good p v (get_or p.contacts k blank));
}

-- the light time that the service holds for a contact is the one that the contact has in the plan
pub service_has_light : (p : Plan) → Valid p → (used : ℕ → ℕ) (c : ℕ) → InPlan (service_of p used) c
    → HasLight p.ranges (contact_of (service_of p used) c) (light_in (service_of p used) c)
unfolding Each
service_has_light p v used c i =
    subst (λ (light : Option Millis). HasLight p.ranges (contact_of (service_of p used) c) light) (sym (service_light p used c i))
    (light_has p v (contact_of (service_of p used) c) ((service_sound p v used).contacts_good blank (c - 1) (omega (arith, i.least, i.most))).starts)

pub is_service : (contacts : List ℕ) (m : ℕ) (ranges : List ℕ) (n : ℕ) (lights lefts : List ℕ) (used : ℕ → ℕ) → IsPlan contacts m ranges n
    → m ≤ length lights → m ≤ length lefts → served contacts m lights lefts ≡ service_of (plan_of contacts m ranges n) used → IsService contacts m lights lefts
is_service contacts m ranges n lights lefts used plan lights_lent lefts_lent e = record {
  contacts_lent = plan.contacts_lent;
  lights_lent = lights_lent;
  lefts_lent = lefts_lent;
  sound = subst Sound (sym e) (service_sound (plan_of contacts m ranges n) plan.valid used);
}
