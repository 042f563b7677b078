-- A book and its history: bookings entered and places freed, from an empty book on, with the plan fixed (m contacts). No call's promise cites it; the
-- theorems about sessions of calls cite `Standing`, `without` and `standing_use`.
--     Standing       the bookings made and not released, each with its place
--     Kept           the tables to which a history leads, and what stands after it
-- Assumes nothing.
use Rattle.std.specs.Prelude.{cond, List, [], ◌∷◌, ◌≡◌, ℕ, ◌+◌, ◌<◌, eqb}
use Rattle.units.specs.Limits.{most_places}
use Rattle.book.specs.Book.{Booking, taken, GoodBooking}
use Rattle.book.specs.Tables.{open_mark, free_mark, mark_at, IsBook}
use Rattle.book_keeping.specs.Keeping.{IsLowestFree, entered, entered_chain, freed}

-- a booking that stands, and its place
pub record Standing : Type 0 where
  pub place : ℕ
  pub booking : Booking

-- those that stand once the one in place k is released
unfoldable pub without : ℕ → List Standing → List Standing
without k [] = []
without k (s ∷ ss) = let others = without k ss in cond (eqb s.place k) others (s ∷ others)

-- the consumption of all that stand over contact c in class l or a higher one, counted from the history
unfoldable pub standing_use : List Standing → ℕ → ℕ → ℕ
standing_use [] l c = 0
standing_use (s ∷ ss) l c = taken s.booking l c + standing_use ss l c

-- from an empty book: each step enters a good booking in the lowest free place, or frees an open one
pub data Kept (m : ℕ) : List ℕ → List ℕ → List Standing → Type 0 where
  empty : {t u : List ℕ} → IsBook m t u → ((k : ℕ) → k < most_places → mark_at t k ≡ free_mark) → Kept m t u []
  booked : {t u : List ℕ} {ss : List Standing} (k : ℕ) (b : Booking) → Kept m t u ss → IsLowestFree t k → GoodBooking m b
      → Kept m (entered t k b) (entered_chain u k b.chain) (record { place = k; booking = b } ∷ ss)
  released : {t u : List ℕ} {ss : List Standing} (k : ℕ) → Kept m t u ss → k < most_places → mark_at t k ≡ open_mark → Kept m (freed t k) u (without k ss)
