-- The plan with its book, and a call over both where all is good.
--     with_book      the plan as it serves a class: what is left on a contact is its volume less what bookings of that class or a higher one use
--     GoodClass      a class is 1, 2 or 3
--     Good           plan, book, ask and class are good, and the ask is between two nodes
-- Assumes nothing.
use Rattle.std.specs.Prelude.{List, ◌≡◌, ℕ, ◌≤◌}
use Rattle.units.specs.Limits.{most_class}
use Rattle.units.specs.declared.Ask.{Ask}
use Rattle.plan.specs.Plan.{Plan}
use Rattle.plan.specs.Tables.{IsPlan}
use Rattle.service.specs.Service.{Service, service_of}
use Rattle.book.specs.Book.{Booking, used}
use Rattle.book.specs.Tables.{IsBook}
use Rattle.units.specs.Asks.{GoodAsk}

abbrev pub with_book : Plan → List Booking → ℕ → Service
with_book p bookings class = service_of p (used bookings class)

-- classes are 1, the lowest, to 3
pub record GoodClass (class : ℕ) : Type 0 where
  pub least : 1 ≤ class
  pub most : class ≤ most_class

-- all is good
pub record Good (contacts : List ℕ) (m : ℕ) (ranges : List ℕ) (n : ℕ) (book chains : List ℕ) (ask : Ask) (class : ℕ) : Type 0 where
  pub plan : IsPlan contacts m ranges n
  pub its_book : IsBook m book chains
  pub ask_is_good : GoodAsk ask
  pub good_class : GoodClass class
  pub differ : ask.source.0 ≡ ask.destination.0 → ⊥
