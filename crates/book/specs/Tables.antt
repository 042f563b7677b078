-- How lent tables hold a book: 256 places, four words each, and beside them 63 contact numbers of 16 bits each.
--     mark_at, booking_at      a place's mark, and the booking that it holds where it is open; places are counted from 0 here
--     book_of                 the open bookings, in the order of their places
--     IsBook                 the tables hold a good book for a plan of m contacts: what refusal 9 asks
-- Assumes nothing.
use Rattle.std.specs.Prelude.{cond, List, [], ◌∷◌, ◌≡◌, ℕ, zero, suc, ◌+◌, ◌*◌, ◌≤◌, ◌<◌, eqb, length, get_or}
use Rattle.units.specs.Limits.{most_chain, most_places}
use Rattle.plan.specs.Tables.{rows_from}
use Rattle.book.specs.Book.{Booking, GoodBooking}

-- the words of a place: its mark, class, consumption, and how many contacts its chain has
abbrev pub place_words : ℕ
place_words = 4

-- the mark of a place that is free, and of one that is open
abbrev pub free_mark : ℕ
free_mark = 0

abbrev pub open_mark : ℕ
open_mark = 1

abbrev pub mark_at : List ℕ → ℕ → ℕ
mark_at t k = get_or t (k * place_words) 0

abbrev pub count_at : List ℕ → ℕ → ℕ
count_at t k = get_or t (k * place_words + 3) 0

abbrev pub booking_at : List ℕ → List ℕ → ℕ → Booking
booking_at t u k = record {
  class = get_or t (k * place_words + 1) 0;
  consumption = get_or t (k * place_words + 2) 0;
  chain = rows_from (λ i. get_or u (k * most_chain + i) 0) 0 (count_at t k);
}

-- the open bookings of n places from place k on
unfoldable pub bookings_from : List ℕ → List ℕ → ℕ → ℕ → List Booking
unfolding rows_from
bookings_from t u k zero = []
bookings_from t u k (suc n) = let others = bookings_from t u (suc k) n in cond (eqb (mark_at t k) open_mark) (booking_at t u k ∷ others) others

unfoldable pub book_of : List ℕ → List ℕ → List Booking
unfolding bookings_from
book_of t u = bookings_from t u 0 most_places

-- a free place's other words are not looked at
pub data GoodPlace (m : ℕ) (t u : List ℕ) (k : ℕ) : Type 0 where
  free_place : mark_at t k ≡ free_mark → GoodPlace m t u k
  open_place : mark_at t k ≡ open_mark → count_at t k ≤ most_chain → GoodBooking m (booking_at t u k) → GoodPlace m t u k

-- at least 256 places, of which these are looked at; each is free, or open and good
pub record IsBook (m : ℕ) (t u : List ℕ) : Type 0 where
  pub places_lent : most_places * place_words ≤ length t
  pub chains_lent : most_places * most_chain ≤ length u
  pub places_good : (k : ℕ) → k < most_places → GoodPlace m t u k
