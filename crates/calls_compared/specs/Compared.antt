-- What 'Earlier, smaller, more' of the request speaks of: two answers of a call for a route, and the asks and plans that they are for.
--     RoutesOver      an answer of `route`, or of `route_booked` over a plan with its book
--     Delivers        when an answer delivers, or that it is later than any time
--     Found           the answer is no refusal
--     KeepsRoute      an answer that keeps a route
--     ask_by           the same ask with another deadline; `ask_at` and `ask_of` of timing are the ask at another time and of another size
--     Further         a table of contacts with further ones at its end
-- Assumes nothing.
use Rattle.std.specs.Prelude.{List, ◌≡◌, ℕ, ◌≤◌, ◌<◌, take, Result, Ok, Err}
use Rattle.units.specs.declared.Ask.{Ask}
use Rattle.units.specs.declared.Refusal.{Refusal}
use Rattle.units.specs.declared.Refusal.TheVariants.{NoChain, TooLate}
use Rattle.plan.specs.Tables.{contact_at}
use Rattle.walk.specs.declared.figures.Figures.{Figures}
use Rattle.network.specs.Network.{When, at, never}
use Rattle.search.specs.Route.{Routes}
use Rattle.search.specs.declared.answer.Best.{Best}
use Rattle.calls.specs.Calls.{RoutesBooked}

-- what a call is given beside plan, ask and chain: nothing, or a book and the class of the ask
pub data Over : Type 0 where
  no_book : Over
  book_beside : (book chains : List ℕ) (class : ℕ) → Over

-- The answer meets the promise of the call: `Routes` of `route` on the plan alone, `RoutesBooked` of `route_booked` over the plan with its book. What
-- `book_route` answers comes with a `RoutesBooked` in its own promise.
pub data RoutesOver (contacts : List ℕ) (m : ℕ) (ranges : List ℕ) (n : ℕ) : Over → Ask → List ℕ → Result Best Refusal → List ℕ → Type 0 where
  alone : {ask : Ask} {before after : List ℕ} {r : Result Best Refusal} → Routes contacts m ranges n ask before r after
      → RoutesOver contacts m ranges n no_book ask before r after
  booked : {book chains : List ℕ} {class : ℕ} {ask : Ask} {before after : List ℕ} {r : Result Best Refusal}
      → RoutesBooked contacts m ranges n book chains ask class before r after → RoutesOver contacts m ranges n (book_beside book chains class) ask before r after

-- When an answer delivers: a route at its delivery, and the refusals 13 and 14 later than any time. The other refusals (9, 11, 12, 15, 24) say that
-- something was wrong with the tables, the book, the ask, the class or the lent chain: they have no time here, and are not compared.
pub data Delivers : Result Best Refusal → When → Type 0 where
  route : {b : Best} → Delivers (Ok b) (at b.figures.delivery.0)
  refused_13 : Delivers (Err NoChain) never
  refused_14 : Delivers (Err TooLate) never

pub data Found : Result Best Refusal → Type 0 where
  found : {b : Best} → Found (Ok b)

-- The route b had its contact numbers in front in `after`; the answer is a route with the same delivery, the same start on its first contact and the same
-- chain. Its last call and its room are no less, and may be more.
pub data KeepsRoute (b : Best) (after : List ℕ) : Result Best Refusal → List ℕ → Type 0 where
  kept : {g : Figures} {after' : List ℕ}
      → g.delivery.0 ≡ b.figures.delivery.0
      → g.opens.0 ≡ b.figures.opens.0
      → b.figures.last_call.0 ≤ g.last_call.0
      → b.figures.room ≤ g.room
      → take b.count after' ≡ take b.count after
      → KeepsRoute b after (Ok (record { figures = g; count = b.count })) after'

abbrev pub ask_by : Ask → ℕ → Ask
ask_by ask d = record {
  source = ask.source;
  destination = ask.destination;
  time = ask.time;
  size = ask.size;
  deadline = record { 0 = d };
  excluded = ask.excluded;
}

-- m' contacts, of which the first m are those of the other table: each keeps its number, and the further ones stand at the end
pub record Further (contacts : List ℕ) (m : ℕ) (contacts' : List ℕ) (m' : ℕ) : Type 0 where
  pub no_fewer : m ≤ m'
  pub same : (k : ℕ) → k < m → contact_at contacts' k ≡ contact_at contacts k
