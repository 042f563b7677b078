-- A contact plan as lists of records, and when it is valid ('Numbers used' and 'Plan text' of the request).
-- Assumes nothing.
use Rattle.std.specs.Prelude.{◌≡◌, List, map, ℕ, ◌≤◌, ◌<◌, length, get_or}
use Rattle.units.specs.Limits.{last_time, most_rate, most_light, most_contacts, most_ranges, IsNode}
use Rattle.plan.specs.declared.rows.Contact.{Contact}
use Rattle.plan.specs.declared.rows.Range.{Range}
use Rattle.plan.specs.declared.rows.Span.{Span}

pub record Plan : Type 0 where
  pub contacts : List Contact
  pub ranges : List Range

-- every value in its range, start below end, the two nodes different
pub record GoodContact (c : Contact) : Type 0 where
  pub starts : c.start.0 < c.end.0
  pub ends : c.end.0 ≤ last_time
  pub from_node : IsNode c.from
  pub to_node : IsNode c.to
  pub differ : c.from.0 ≡ c.to.0 → ⊥
  pub rate_least : 1 ≤ c.rate
  pub rate_most : c.rate ≤ most_rate

-- every value in its range, start below end, the two nodes in order
pub record GoodRange (r : Range) : Type 0 where
  pub starts : r.start.0 < r.end.0
  pub ends : r.end.0 ≤ last_time
  pub a_node : IsNode r.a
  pub b_node : IsNode r.b
  pub order : r.a.0 < r.b.0
  pub light_most : r.light.0 ≤ most_light

abbrev pub contact_span : Contact → Span
contact_span c = record { start = c.start; end = c.end; one = c.from; other = c.to }

abbrev pub range_span : Range → Span
range_span r = record { start = r.start; end = r.end; one = r.a; other = r.b }

-- the same two nodes, and the start of each is below the end of the other: touching is no overlap
pub record Overlap (x y : Span) : Type 0 where
  pub one_same : x.one.0 ≡ y.one.0
  pub other_same : x.other.0 ≡ y.other.0
  pub x_before : x.start.0 < y.end.0
  pub y_before : y.start.0 < x.end.0

module _ {A : Type 0} where
  -- it holds of each element
  unfoldable pub Each : (A → Type 0) → List A → Type 0
  Each P xs = (blank : A) (k : ℕ) → k < length xs → P (get_or xs k blank)

  -- it holds of some element
  pub record SomeOf (P : A → Type 0) (xs : List A) : Type 0 where
    pub place : ℕ
    pub in_list : place < length xs
    pub holds_there : (blank : A) → P (get_or xs place blank)

  -- it holds of no two elements, the earlier one first
  unfoldable pub NoTwo : (A → A → Type 0) → List A → Type 0
  NoTwo R xs = (blank : A) (j k : ℕ) → j < k → k < length xs → R (get_or xs j blank) (get_or xs k blank) → ⊥

pub record Valid (p : Plan) : Type 0 where
  pub contacts_most : length p.contacts ≤ most_contacts
  pub ranges_most : length p.ranges ≤ most_ranges
  pub contacts_good : Each GoodContact p.contacts
  pub ranges_good : Each GoodRange p.ranges
  pub contacts_apart : NoTwo Overlap (map contact_span p.contacts)
  pub ranges_apart : NoTwo Overlap (map range_span p.ranges)
