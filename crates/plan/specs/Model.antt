-- The tests that the code makes, as functions that compute. A reader of the promises may skip them: proofs/Tests.antt has the laws that join
-- each to the statement of Plan.antt.
-- Assumes nothing.
use Rattle.std.specs.Prelude.{Bool, ◌&&◌, leb, ltb, eqb, length}
use Rattle.std.proofs.Math.Bool.{true, not}
use mathlib.Core.List.{List, [], ◌∷◌, map}
use Rattle.units.specs.Limits.{last_time, most_rate, most_light, most_contacts, most_ranges}
use Rattle.units.specs.Model.{is_node}
use Rattle.plan.specs.declared.rows.Contact.{Contact}
use Rattle.plan.specs.declared.rows.Range.{Range}
use Rattle.plan.specs.declared.rows.Span.{Span}
use Rattle.plan.specs.Plan.{Plan, contact_span, range_span}

abbrev pub good_contact : Contact → Bool
good_contact c =
    ltb c.start.0 c.end.0 && leb c.end.0 last_time && is_node c.from && is_node c.to && not (eqb c.from.0 c.to.0) && leb 1 c.rate
    && leb c.rate most_rate

abbrev pub good_range : Range → Bool
good_range r =
    ltb r.start.0 r.end.0 && leb r.end.0 last_time && is_node r.a && is_node r.b && ltb r.a.0 r.b.0
    && leb r.light.0 most_light

abbrev pub overlap : Span → Span → Bool
overlap x y =
    eqb x.one.0 y.one.0 && eqb x.other.0 y.other.0 && ltb x.start.0 y.end.0 && ltb y.start.0 x.end.0

module _ {A : Type 0} where
  -- the test passes at each element
  unfoldable pub each : (A → Bool) → List A → Bool
  each test [] = true
  each test (x ∷ xs) = test x && each test xs

  -- the test fails at each element with each one after it
  unfoldable pub no_two : (A → A → Bool) → List A → Bool
  unfolding each
  no_two test [] = true
  no_two test (x ∷ xs) = each (λ y. not (test x y)) xs && no_two test xs

unfoldable pub is_valid : Plan → Bool
unfolding each no_two
is_valid p =
    leb (length p.contacts) most_contacts && leb (length p.ranges) most_ranges && each good_contact p.contacts && each good_range p.ranges
    && no_two overlap (map contact_span p.contacts) && no_two overlap (map range_span p.ranges)
