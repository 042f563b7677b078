-- Bookings of volume on contacts (request 3): what they use, and when one is good.
--     Booking          its class, its consumption, the contacts of its chain
--     used             the bytes of a contact that open bookings use in a class or a higher one
--     GoodBooking      every value in its range, every contact in the plan
-- Assumes nothing.
use Rattle.std.specs.Prelude.{Bool, false, ◌&&◌, ◌||◌, cond, List, [], ◌∷◌, ℕ, ◌+◌, ◌≤◌, leb, eqb, length}
use Rattle.units.specs.Limits.{most_chain, most_class, most_consumption}
use Rattle.plan.specs.Plan.{Each}

-- a booking: classes are 1, the lowest, to 3
pub record Booking : Type 0 where
  pub class : ℕ
  pub consumption : ℕ
  pub chain : List ℕ

-- the chain names the contact
unfoldable pub names : List ℕ → ℕ → Bool
names [] c = false
names (x ∷ xs) c = eqb x c || names xs c

-- the bytes that a booking takes of contact c from class k: its consumption, once, where its class is k or higher and its chain names the contact
unfoldable pub taken : Booking → ℕ → ℕ → ℕ
taken b k c = cond (leb k b.class && names b.chain c) b.consumption 0

-- the consumption of all these bookings over contact c in class k or a higher one
unfoldable pub used : List Booking → ℕ → ℕ → ℕ
used [] k c = 0
used (b ∷ bs) k c = taken b k c + used bs k c

-- the number names one of m contacts
pub record Named (m c : ℕ) : Type 0 where
  pub least : 1 ≤ c
  pub most : c ≤ m

-- every value in its range; at least one contact and no more than a best chain can have, each among the m of the plan
pub record GoodBooking (m : ℕ) (b : Booking) : Type 0 where
  pub class_least : 1 ≤ b.class
  pub class_most : b.class ≤ most_class
  pub consumption_least : 1 ≤ b.consumption
  pub consumption_most : b.consumption ≤ most_consumption
  pub some : 1 ≤ length b.chain
  pub few : length b.chain ≤ most_chain
  pub named : Each (Named m) b.chain
