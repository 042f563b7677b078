-- The light time of a contact as it was before ranges could change during a pass: that of the single range that covers all of it, or none.
-- `light_as_before` of proofs/Before.antt: a contact that a single range covers, and one that all ranges together do not cover, have the light time
-- that they had. No promise cites it: a reader may skip it.
-- Assumes nothing.
use Rattle.std.specs.Prelude.{cond, Bool, ◌&&◌, List, [], ◌∷◌, ◌≤◌, leb, Option, Some, None}
use Rattle.plan.specs.declared.rows.Contact.{Contact}
use Rattle.plan.specs.declared.rows.Range.{Range}
use Rattle.units.specs.declared.Millis.{Millis}
use Rattle.plan.specs.Light.{Joins, joins}

-- the range names the contact's two nodes, starts no later and ends no earlier
pub record Covers (r : Range) (c : Contact) : Type 0 where
  pub names : Joins r c
  pub starts : r.start.0 ≤ c.start.0
  pub ends : c.end.0 ≤ r.end.0

-- the same, as a test
abbrev pub covers : Range → Contact → Bool
covers r c = joins r c && leb r.start.0 c.start.0 && leb c.end.0 r.end.0

-- the light time of the first range that covers the contact
unfoldable pub single_light : List Range → Contact → Option Millis
single_light [] c = None
single_light (r ∷ rs) c = cond (covers r c) (Some r.light) (single_light rs c)
