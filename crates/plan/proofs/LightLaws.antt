-- The light time of a contact in the request's words, by the places of the ranges and their numbers alone.
--     ranged_exactly           every millisecond of the contact lies in a range of its two nodes
--     largest_exactly          a light time is the largest among the ranges of its two nodes that share time with it
--     has_light_exactly        a contact has a light time exactly where both hold
--     unranged_exactly         and none exactly where some millisecond lies in no range
-- Assumes nothing.
use mathlib.Core.List.{List}
use mathlib.Core.Logic.{◌⊎◌, ◌↔◌}
use mathlib.Core.Path.{◌≡◌, ap}
use Prim.Native.Nat.{ℕ, ◌≤◌, ◌<◌}
use lib.ListN.{length, get_or}
use Rattle.units.specs.declared.Millis.{Millis}
use Rattle.plan.specs.Light.{Ranged, IsLargest, HasLight, ranged, not_ranged}
use Rattle.plan.specs.Plan.{Each}
use Rattle.plan.specs.declared.rows.Contact.{Contact}
use Rattle.plan.specs.declared.rows.Range.{Range}
use Rattle.std.specs.Prelude.{Some, None}

-- the range names the contact's two nodes: the light time holds both ways
abbrev pub OfPair : Range → Contact → Type 0
OfPair r c = ((r.a.0 ≡ c.from.0) × (r.b.0 ≡ c.to.0)) ⊎ ((r.a.0 ≡ c.to.0) × (r.b.0 ≡ c.from.0))

-- the range at some place is of the pair and has the millisecond t
pub record Covered (rs : List Range) (c : Contact) (t : ℕ) : Type 0 where
  pub place : ℕ
  pub in_list : place < length rs
  pub has : (blank : Range) → OfPair (get_or rs place blank) c × ((get_or rs place blank).start.0 ≤ t) × (t < (get_or rs place blank).end.0)

-- a range of the pair shares time with the contact: the start of each is below the end of the other
abbrev pub SharesTime : Range → Contact → Type 0
SharesTime r c = OfPair r c × (r.start.0 < c.end.0) × (c.start.0 < r.end.0)

-- one of those that share time has this light time, and none of them a larger one
pub record Largest (rs : List Range) (c : Contact) (l : ℕ) : Type 0 where
  pub place : ℕ
  pub in_list : place < length rs
  pub has : (blank : Range) → SharesTime (get_or rs place blank) c × ((get_or rs place blank).light.0 ≡ l)
  pub none_larger : (blank : Range) (k : ℕ) → k < length rs → SharesTime (get_or rs k blank) c → (get_or rs k blank).light.0 ≤ l

module _ (rs : List Range) (c : Contact) where
  pub ranged_exactly : Ranged rs c ↔ ((t : ℕ) → c.start.0 ≤ t → t < c.end.0 → Covered rs c t)
  unfolding Ranged
  ranged_exactly = (
    λ f t from until.
        let s = f t from until in
        record { place = s.place; in_list = s.in_list; has = λ blank. let x = s.holds_there blank in (x.names, x.begun, x.lasting) },
    λ f t from until.
        let s = f t from until in
        record {
          place = s.place;
          in_list = s.in_list;
          holds_there = λ blank. let x = s.has blank in record { names = x.0; begun = x.1; lasting = x.2 };
        },
  )

  pub largest_exactly : (l : Millis) → IsLargest rs c l ↔ Largest rs c l.0
  unfolding Each
  largest_exactly l = (
    λ x. record {
      place = x.is_one.place;
      in_list = x.is_one.in_list;
      has = λ blank.
          let (s, e) = x.is_one.holds_there blank in
          ((s.names, s.range_before, s.contact_before), ap (λ (m : Millis). m.0) e);
      none_larger = λ blank k h s. x.largest blank k h (record { names = s.0; range_before = s.1; contact_before = s.2 });
    },
    λ x. record {
      is_one = record {
        place = x.place;
        in_list = x.in_list;
        holds_there = λ blank.
            let s = x.has blank in
            (record { names = s.0.0; range_before = s.0.1; contact_before = s.0.2 }, ap (λ (n : ℕ). record { 0 = n }) s.1);
      };
      largest = λ blank k h s. x.none_larger blank k h (s.names, s.range_before, s.contact_before);
    },
  )

  pub has_light_exactly : (l : Millis) → HasLight rs c (Some l)
      ↔ (((t : ℕ) → c.start.0 ≤ t → t < c.end.0 → Covered rs c t) × Largest rs c l.0)
  has_light_exactly l = (told, λ x. ranged (ranged_exactly.1 x.0) ((largest_exactly l).1 x.1))
    where
      told : {m : Millis} → HasLight rs c (Some m) → ((t : ℕ) → c.start.0 ≤ t → t < c.end.0 → Covered rs c t) × Largest rs c m.0
      told (ranged {l} f x) = (ranged_exactly.0 f, (largest_exactly l).0 x)

  pub unranged_exactly : HasLight rs c None ↔ (((t : ℕ) → c.start.0 ≤ t → t < c.end.0 → Covered rs c t) → ⊥)
  unranged_exactly = (told, λ n. not_ranged (λ f. n (ranged_exactly.0 f)))
    where
      told : HasLight rs c None → ((t : ℕ) → c.start.0 ≤ t → t < c.end.0 → Covered rs c t) → ⊥
      told (not_ranged n) f = n (ranged_exactly.1 f)
