-- What the contracts of single steps speak of. A reader of the promises may skip it.
--     RefusedFor      whatever chain is lent, `book_route` refuses so
--     Bookable        a chain can be booked in a place
-- Assumes nothing.
use Rattle.std.specs.Prelude.{List, ℕ, ◌≤◌, ◌<◌, length, Err}
use Rattle.units.specs.Limits.{most_size, most_contacts, most_chain, most_places}
use Rattle.units.specs.declared.Ask.{Ask}
use Rattle.units.specs.declared.Refusal.{Refusal}
use Rattle.book.specs.Book.{GoodBooking}
use Rattle.book.specs.Tables.{IsBook}
use Rattle.calls_book.specs.Placing.{booking_of, BooksRoute}

unfoldable pub RefusedFor : List ℕ → ℕ → List ℕ → ℕ → List ℕ → List ℕ → Ask → ℕ → Refusal → Type 0
RefusedFor contacts m ranges n book chains ask class why =
    (before : List ℕ) → most_chain ≤ length before → BooksRoute contacts m ranges n book chains ask class before (Err why) book chains before

-- the book is good for a plan of m contacts, and so is the booking
pub record Bookable (book chains : List ℕ) (k : ℕ) (ask : Ask) (class : ℕ) (chain : List ℕ) : Type 0 where
  pub m : ℕ
  pub m_most : m ≤ most_contacts
  pub its_book : IsBook m book chains
  pub inside : k < most_places
  pub size_most : ask.size ≤ most_size
  pub good : GoodBooking m (booking_of ask class chain)
