-- The promises of the calls over a plan with its book.
--     WalksBooked      a given chain is timed: 9, 11, 24, 12, 18 to 23, 14, or its figures
--     RoutesBooked     the best chain: 15, 9, 11, 24, 12, 13, 14, or its figures and its numbers
-- Assumes nothing.
use Rattle.std.specs.Prelude.{List, ℕ, ◌≤◌, ◌<◌, length, Result, Err}
use Rattle.units.specs.Limits.{most_chain}
use Rattle.units.specs.declared.Ask.{Ask}
use Rattle.units.specs.declared.Refusal.{Refusal}
use Rattle.units.specs.declared.Refusal.TheVariants.{ShortChain}
use Rattle.plan.specs.Tables.{plan_of}
use Rattle.book.specs.Tables.{book_of}
use Rattle.walk.specs.declared.figures.Figures.{Figures}
use Rattle.walk.specs.Walk.{WalksPlan}
use Rattle.search.specs.declared.answer.Best.{Best}
use Rattle.search.specs.Route.{RoutesPlan}
use Rattle.calls.specs.Booked.{with_book, Good}
use Rattle.calls.specs.Checks.{Checked}

module _ (contacts : List ℕ) (m : ℕ) (ranges : List ℕ) (n : ℕ) (book chains : List ℕ) (ask : Ask) (class : ℕ) where
  -- the answer for lent tables, any ask, any class and any chain
  pub data WalksBooked (chain : List ℕ) : Result Figures Refusal → Type 0 where
    stopped : {why : Refusal} → Checked contacts m ranges n book chains ask class (Err why) → WalksBooked chain (Err why)
    walked : {w : Result Figures Refusal} → Good contacts m ranges n book chains ask class
        → WalksPlan (with_book (plan_of contacts m ranges n) (book_of book chains) class) ask chain w → WalksBooked chain w

  -- the answer for lent tables, any ask, any class and any lent chain; `before` is what the lent chain holds before the call, the last list what it
  -- holds after
  pub data RoutesBooked (before : List ℕ) : Result Best Refusal → List ℕ → Type 0 where
    short_chain : length before < most_chain → RoutesBooked before (Err ShortChain) before
    not_routed : {why : Refusal} → most_chain ≤ length before → Checked contacts m ranges n book chains ask class (Err why)
        → RoutesBooked before (Err why) before
    routed : {r : Result Best Refusal} {after : List ℕ} → most_chain ≤ length before → Good contacts m ranges n book chains ask class
        → RoutesPlan (with_book (plan_of contacts m ranges n) (book_of book chains) class) ask before r after → RoutesBooked before r after
