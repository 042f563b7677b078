-- The promises of the exported functions over a plan with its book, in the form of those of Faces.antt: the promise of the library's call, with its
-- answer laid out in words. Where the lent answer is too short, 10 is returned and nothing changes, whatever else is lent. `book` and `booked` are the
-- two tables of the lent book.
--     BoardWalksBooked      a given chain is timed, as `WalksBooked` says
--     BoardRoutesBooked     the best chain is found, as `RoutesBooked` says
--     BoardBooks            the best chain is found and booked, as `BooksRoute` says
--     BoardReleases         a booking is released, as `Releases` says
-- Assumes nothing.
use Rattle.std.specs.Prelude.{List, ⊤, ℕ, ◌≤◌, ◌<◌, length, Result}
use Rattle.units.specs.declared.Ask.{Ask}
use Rattle.units.specs.declared.Refusal.{Refusal}
use Rattle.walk.specs.declared.figures.Figures.{Figures}
use Rattle.search.specs.declared.answer.Best.{Best}
use Rattle.calls.specs.Calls.{WalksBooked, RoutesBooked}
use Rattle.calls_book.specs.declared.answers.Placed.{Placed}
use Rattle.calls_book.specs.Placing.{BooksRoute, Releases}
use Rattle.board_face.specs.Layout.{answer_words, booked_words, no_room_number, walked_words, routed_words, placed_words, released_words, Answered}

module _ (contacts : List ℕ) (m : ℕ) (ranges : List ℕ) (n : ℕ) (book booked : List ℕ) where
  pub data BoardWalksBooked (ask : Ask) (class : ℕ) (chain answer : List ℕ) : ℕ → List ℕ → Type 0 where
    no_room : length answer < answer_words → BoardWalksBooked ask class chain answer no_room_number answer
    called : {r : Result Figures Refusal} {number : ℕ} {answer' : List ℕ} → answer_words ≤ length answer
        → WalksBooked contacts m ranges n book booked ask class chain r → Answered (walked_words r) answer number answer'
        → BoardWalksBooked ask class chain answer number answer'

  pub data BoardRoutesBooked (ask : Ask) (class : ℕ) (chain answer : List ℕ) : ℕ → List ℕ → List ℕ → Type 0 where
    no_room : length answer < answer_words → BoardRoutesBooked ask class chain answer no_room_number chain answer
    called : {r : Result Best Refusal} {chain' : List ℕ} {number : ℕ} {answer' : List ℕ} → answer_words ≤ length answer
        → RoutesBooked contacts m ranges n book booked ask class chain r chain' → Answered (routed_words r) answer number answer'
        → BoardRoutesBooked ask class chain answer number chain' answer'

  pub data BoardBooks (ask : Ask) (class : ℕ) (chain answer : List ℕ) : ℕ → List ℕ → List ℕ → List ℕ → List ℕ → Type 0 where
    no_room : length answer < booked_words → BoardBooks ask class chain answer no_room_number book booked chain answer
    called : {r : Result Placed Refusal} {book' booked' chain' : List ℕ} {number : ℕ} {answer' : List ℕ} → booked_words ≤ length answer
        → BooksRoute contacts m ranges n book booked ask class chain r book' booked' chain' → Answered (placed_words r) answer number answer'
        → BoardBooks ask class chain answer number book' booked' chain' answer'

  pub data BoardReleases (place : ℕ) (answer : List ℕ) : ℕ → List ℕ → List ℕ → Type 0 where
    no_room : length answer < answer_words → BoardReleases place answer no_room_number book answer
    called : {r : Result ⊤ Refusal} {book' : List ℕ} {number : ℕ} {answer' : List ℕ} → answer_words ≤ length answer
        → Releases contacts m ranges n book booked place r book' → Answered (released_words r) answer number answer'
        → BoardReleases place answer number book' answer'
