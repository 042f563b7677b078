-- A book and the calls made on it, from an empty book on, with the plan fixed. No call's promise cites it: the theorems of proofs/SessionLaws.antt do.
--     stands, leaves      what stands after a call, counted from its answer
--     Session             the tables to which a sequence of calls leads, and what stands after it: booked and not released
-- Assumes nothing.
use Rattle.std.specs.Prelude.{List, [], ◌∷◌, ◌≡◌, ℕ, ◌-◌, ◌<◌, take, Result, Ok, Err}
use Rattle.units.specs.Limits.{most_places}
use Rattle.units.specs.declared.Ask.{Ask}
use Rattle.units.specs.declared.Refusal.{Refusal}
use Rattle.book.specs.Tables.{free_mark, mark_at, IsBook}
use Rattle.book_keeping.specs.History.{Standing, without}
use Rattle.calls_book.specs.Placing.{booking_of, BooksRoute, Releases}
use Rattle.calls_book.specs.declared.answers.Placed.{Placed}

-- one more where the answer has a place; the chain is the one answered
unfoldable pub stands : Ask → ℕ → List ℕ → Result Placed Refusal → List Standing → List Standing
stands ask class after (Ok p) ss = record { place = p.place - 1; booking = booking_of ask class (take p.count after) } ∷ ss
stands ask class after (Err why) ss = ss

-- without the one in that place where it was freed
unfoldable pub leaves : ℕ → Result (Unit {0}) Refusal → List Standing → List Standing
unfolding without
leaves place (Ok done) ss = without (place - 1) ss
leaves place (Err why) ss = ss

-- any asks, classes, lent chains and places, refused or not
pub data Session (contacts : List ℕ) (m : ℕ) (ranges : List ℕ) (n : ℕ) : List ℕ → List ℕ → List Standing → Type 0 where
  begun : {t u : List ℕ} → IsBook m t u → ((k : ℕ) → k < most_places → mark_at t k ≡ free_mark) → Session contacts m ranges n t u []
  then_booked : {t u t' u' : List ℕ} {ss : List Standing} {ask : Ask} {class : ℕ} {before after : List ℕ} {a : Result Placed Refusal}
      → Session contacts m ranges n t u ss → BooksRoute contacts m ranges n t u ask class before a t' u' after
      → Session contacts m ranges n t' u' (stands ask class after a ss)
  then_released : {t u t' : List ℕ} {ss : List Standing} {place : ℕ} {a : Result (Unit {0}) Refusal} → Session contacts m ranges n t u ss
      → Releases contacts m ranges n t u place a t' → Session contacts m ranges n t' u (leaves place a ss)
