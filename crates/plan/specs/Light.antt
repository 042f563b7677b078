-- The light time of a contact: the largest among the ranges of its pair that share time with it, where these together cover all of it, or none.
--     Joins, Shares      a range is of the contact's pair; it shares time with it
--     Ranged             the ranges of the pair together cover every millisecond of the contact
--     IsLargest          the largest light time among the ranges that share time with it
--     HasLight           the light time of a contact, or none
--     light_of            the same, as the code finds it. A reader of the promises may skip how: `light_has` of proofs/Ranging.antt says that it is the
--                        light time that the contact has, for the ranges of a valid plan
-- Assumes nothing.
use Rattle.std.specs.Prelude.{Bool, ◌&&◌, ◌||◌, cond, List, [], ◌∷◌, ◌⊎◌, ◌≡◌, ℕ, ◌+◌, ◌-◌, ◌≤◌, ◌<◌, min, max, leb, eqb, Option, Some, None}
use Rattle.units.specs.declared.Millis.{Millis}
use Rattle.plan.specs.Plan.{Each, SomeOf}
use Rattle.plan.specs.declared.rows.Contact.{Contact}
use Rattle.plan.specs.declared.rows.Range.{Range}

-- the range names the contact's two nodes, whichever way
abbrev pub Joins : Range → Contact → Type 0
Joins r c = ((r.a.0 ≡ c.from.0) × (r.b.0 ≡ c.to.0)) ⊎ ((r.a.0 ≡ c.to.0) × (r.b.0 ≡ c.from.0))

-- it names them, and the start of each is below the end of the other: touching shares no time
pub record Shares (r : Range) (c : Contact) : Type 0 where
  pub names : Joins r c
  pub range_before : r.start.0 < c.end.0
  pub contact_before : c.start.0 < r.end.0

-- it names them, and the millisecond t lies in it
pub record CoversAt (c : Contact) (t : ℕ) (r : Range) : Type 0 where
  pub names : Joins r c
  pub begun : r.start.0 ≤ t
  pub lasting : t < r.end.0

-- every millisecond of the contact lies in a range of its pair
unfoldable pub Ranged : List Range → Contact → Type 0
Ranged rs c = (t : ℕ) → c.start.0 ≤ t → t < c.end.0 → SomeOf (CoversAt c t) rs

pub record IsLargest (rs : List Range) (c : Contact) (l : Millis) : Type 0 where
  pub is_one : SomeOf (λ r. Shares r c × (r.light ≡ l)) rs
  pub largest : Each (λ r. Shares r c → r.light.0 ≤ l.0) rs

pub data HasLight (rs : List Range) (c : Contact) : Option Millis → Type 0 where
  ranged : {l : Millis} → Ranged rs c → IsLargest rs c l → HasLight rs c (Some l)
  not_ranged : (Ranged rs c → ⊥) → HasLight rs c None

-- ---- as the code finds it, which a reader of the promises may skip: the ranges of a valid plan do not overlap, so they cover the contact exactly
-- where the time that they share with it adds up to its length

abbrev pub joins : Range → Contact → Bool
joins r c = (eqb r.a.0 c.from.0 && eqb r.b.0 c.to.0) || (eqb r.a.0 c.to.0 && eqb r.b.0 c.from.0)

-- the milliseconds that a range shares with a contact
unfoldable pub shared_by : Range → Contact → ℕ
shared_by r c = cond (joins r c) (min r.end.0 c.end.0 - max r.start.0 c.start.0) 0

-- those that all of them share with it
unfoldable pub shared_time : List Range → Contact → ℕ
unfolding shared_by
shared_time [] c = 0
shared_time (r ∷ rs) c = shared_by r c + shared_time rs c

-- the largest light time of those that share at least one
unfoldable pub largest_light : List Range → Contact → ℕ
unfolding shared_by
largest_light [] c = 0
largest_light (r ∷ rs) c = let others = largest_light rs c in cond (leb 1 (shared_by r c)) (max r.light.0 others) others

unfoldable pub light_of : List Range → Contact → Option Millis
unfolding shared_time largest_light
light_of rs c = cond (eqb (shared_time rs c) (c.end.0 - c.start.0)) (Some (record { 0 = largest_light rs c })) None
