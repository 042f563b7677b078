-- The plan as it serves an ask: its contacts, the light time of each, and the bytes that are left on each.
--     Service                        the three lists, by contact number
--     contact_of, light_in, left_in     what they hold for a contact
--     volume                         the bytes that a contact carries in all
--     left_on                         what is left on a contact, with its sign
--     service_of                      a plan as it serves an ask, where so many bytes of each contact are used
--     Sound                          every contact good, every light time in its range
-- Assumes nothing.
use Rattle.std.specs.Prelude.{◌≡◌, List, [], ◌∷◌, map, ℕ, suc, ◌-◌, ◌*◌, ◌/◌, ◌≤◌, ℤ, pos, ◌-ℤ◌, length, get_or, Option, Some, None}
use Rattle.units.specs.Limits.{most_contacts, most_light}
use Rattle.plan.specs.declared.rows.Contact.{Contact}
use Rattle.units.specs.declared.Millis.{Millis}
use Rattle.plan.specs.Light.{light_of}
use Rattle.plan.specs.Plan.{Plan, GoodContact, Each}

pub record Service : Type 0 where
  pub contacts : List Contact
  pub lights : List (Option Millis)
  pub lefts : List ℕ

-- a contact that stands nowhere, for numbers that name none
abbrev pub blank : Contact
blank = record { start = record { 0 = 0 }; end = record { 0 = 0 }; from = record { 0 = 0 }; to = record { 0 = 0 }; rate = 0 }

-- the contact of a number: contacts are numbered from 1
abbrev pub contact_of : Service → ℕ → Contact
contact_of s c = get_or s.contacts (c - 1) blank

-- its light time, or none
abbrev pub light_in : Service → ℕ → Option Millis
light_in s c = get_or s.lights (c - 1) None

-- the bytes that are left on it
abbrev pub left_in : Service → ℕ → ℕ
left_in s c = get_or s.lefts (c - 1) 0

-- its rate times its length over 1000, rounded down
unfoldable pub volume : Contact → ℕ
volume c = c.rate * (c.end.0 - c.start.0) / 1000

-- what is left on a contact where so many bytes of each are used: the volume less what is used, and below zero where more is used
abbrev pub left_on : Plan → (ℕ → ℕ) → ℕ → ℤ
left_on p used c = pos (volume (get_or p.contacts (c - 1) blank)) -ℤ pos (used c)

-- the bytes of it that can still be sent over contacts from number n on: what is left, and 0 where that is below zero (`left_serves` of
-- proofs/LeftLaws.antt: a file fits the one exactly where it fits the other)
unfoldable pub lefts_from : (ℕ → ℕ) → ℕ → List Contact → List ℕ
unfolding volume
lefts_from used n [] = []
lefts_from used n (c ∷ cs) = (volume c - used n) ∷ lefts_from used (suc n) cs

unfoldable pub service_of : Plan → (ℕ → ℕ) → Service
unfolding lefts_from
service_of p used = record { contacts = p.contacts; lights = map (light_of p.ranges) p.contacts; lefts = lefts_from used 1 p.contacts }

-- nothing is used
abbrev pub unused : ℕ → ℕ
unused n = 0

-- the number names a contact
pub record InPlan (s : Service) (c : ℕ) : Type 0 where
  pub least : 1 ≤ c
  pub most : c ≤ length s.contacts

-- ---- what functions inside the calls require: a reader of the promises may skip it

abbrev pub LightGood : Option Millis → Type 0
LightGood (Some l) = l.0 ≤ most_light
LightGood None = Unit {0}

pub record Sound (s : Service) : Type 0 where
  pub contacts_most : length s.contacts ≤ most_contacts
  pub contacts_good : Each GoodContact s.contacts
  pub lights_counted : length s.lights ≡ length s.contacts
  pub lights_good : Each LightGood s.lights
