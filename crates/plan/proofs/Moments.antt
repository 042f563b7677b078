-- What overlap is: two spans of one pair overlap exactly where they have a moment in common.
--     overlap_meet, meet_overlap      of two spans that each start before they end
--     valid_contacts_meet, valid_ranges_meet      in a valid plan no two contacts of one pair, and no two ranges, have one
-- Assumes nothing.
use mathlib.Core.List.{List, map}
use mathlib.Core.Path.{◌≡◌}
use Prim.Native.Nat.{ℕ, ◌≤◌, ◌<◌, max}
use native.Mathlib.Omega.{arith}
use lib.ListN.{get_or}
use Rattle.plan.specs.declared.rows.Span.{Span}
use Rattle.plan.specs.Plan.{Plan, Overlap, NoTwo, Valid, contact_span, range_span}

-- the same two nodes, and a millisecond t that lies in both
pub record Meet (x y : Span) : Type 0 where
  pub one_same : x.one.0 ≡ y.one.0
  pub other_same : x.other.0 ≡ y.other.0
  pub t : ℕ
  pub x_starts : x.start.0 ≤ t
  pub x_ends : t < x.end.0
  pub y_starts : y.start.0 ≤ t
  pub y_ends : t < y.end.0

pub overlap_meet : (x y : Span) → x.start.0 < x.end.0 → y.start.0 < y.end.0 → Overlap x y → Meet x y
overlap_meet x y hx hy o = record {
  one_same = o.one_same;
  other_same = o.other_same;
  t = max x.start.0 y.start.0;
  x_starts = omega arith;
  x_ends = omega arith;
  y_starts = omega arith;
  y_ends = omega arith;
}

pub meet_overlap : (x y : Span) → Meet x y → Overlap x y
meet_overlap x y m = record { one_same = m.one_same; other_same = m.other_same; x_before = omega arith; y_before = omega arith }

no_two_meet : (xs : List Span) → NoTwo Overlap xs → NoTwo Meet xs
unfolding NoTwo
no_two_meet xs apart blank j k l h m = apart blank j k l h (meet_overlap (get_or xs j blank) (get_or xs k blank) m)

pub valid_contacts_meet : (p : Plan) → Valid p → NoTwo Meet (map contact_span p.contacts)
valid_contacts_meet p v = no_two_meet (map contact_span p.contacts) v.contacts_apart

pub valid_ranges_meet : (p : Plan) → Valid p → NoTwo Meet (map range_span p.ranges)
valid_ranges_meet p v = no_two_meet (map range_span p.ranges) v.ranges_apart
