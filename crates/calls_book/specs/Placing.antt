-- The promises of the calls that change a book.
--     BooksRoute      the best chain is worked out and booked in the lowest free place: 15, 9, 11, 24, 12, 13, 14, 25, or figures, chain and place
--     Releases        the booking in a place is released: 9, 26, or the place is free
-- Each says every word of the lent tables and of the lent chain when the call returns.
-- Assumes nothing.
use Rattle.std.specs.Prelude.{List, ◌≡◌, ℕ, suc, ◌-◌, ◌≤◌, take, Result, Ok, Err}
use Rattle.units.specs.Limits.{most_places}
use Rattle.units.specs.declared.Ask.{Ask}
use Rattle.units.specs.declared.Refusal.{Refusal}
use Rattle.units.specs.declared.Refusal.TheVariants.{NoPlan, FullBook, NotOpen}
use Rattle.plan.specs.Tables.{IsPlan}
use Rattle.book.specs.Book.{Booking}
use Rattle.book.specs.Tables.{open_mark, mark_at, IsBook}
use Rattle.book_keeping.specs.Keeping.{IsLowestFree, AllOpen, entered, entered_chain, freed}
use Rattle.timing.specs.Hop.{consumed}
use Rattle.search.specs.declared.answer.Best.{Best}
use Rattle.calls.specs.Calls.{RoutesBooked}
use Rattle.calls_book.specs.declared.answers.Placed.{Placed}

-- what is booked of an ask: its class, its consumption and its chain
abbrev pub booking_of : Ask → ℕ → List ℕ → Booking
booking_of ask class chain = record { class = class; consumption = consumed ask.size; chain = chain }

module _ (contacts : List ℕ) (m : ℕ) (ranges : List ℕ) (n : ℕ) (book chains : List ℕ) where
  -- `before` is what the lent chain holds before the call; the last three lists are the book's two tables and the lent chain after it. Places are
  -- counted from 1 in the answer.
  pub data BooksRoute (ask : Ask) (class : ℕ) (before : List ℕ) : Result Placed Refusal → List ℕ → List ℕ → List ℕ → Type 0 where
    not_routed : {why : Refusal} → RoutesBooked contacts m ranges n book chains ask class before (Err why) before
        → BooksRoute ask class before (Err why) book chains before
    full : {b : Best} {after : List ℕ} → RoutesBooked contacts m ranges n book chains ask class before (Ok b) after → AllOpen book
        → BooksRoute ask class before (Err FullBook) book chains before
    placed : {b : Best} {k : ℕ} {after : List ℕ} → RoutesBooked contacts m ranges n book chains ask class before (Ok b) after → IsLowestFree book k
        → BooksRoute ask class before (Ok (record { figures = b.figures; count = b.count; place = suc k }))
        (entered book k (booking_of ask class (take b.count after))) (entered_chain chains k (take b.count after)) after

  -- place 1 to 256, and open
  pub record OpenAt (place : ℕ) : Type 0 where
    pub least : 1 ≤ place
    pub most : place ≤ most_places
    pub is_open : mark_at book (place - 1) ≡ open_mark

  -- the last list is the book's places after the call; its contact numbers stay as they are
  pub data Releases (place : ℕ) : Result (Unit {0}) Refusal → List ℕ → Type 0 where
    no_plan : (IsPlan contacts m ranges n → ⊥) → Releases place (Err NoPlan) book
    no_book : IsPlan contacts m ranges n → (IsBook m book chains → ⊥) → Releases place (Err NoPlan) book
    not_open : IsPlan contacts m ranges n → IsBook m book chains → (OpenAt place → ⊥) → Releases place (Err NotOpen) book
    released : IsPlan contacts m ranges n → IsBook m book chains → OpenAt place → Releases place (Ok tt) (freed book (place - 1))
