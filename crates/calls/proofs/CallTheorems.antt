-- Where `route_booked` is refused with 13 or 14, for tables that hold a plan and its book, a good ask and class between two nodes, and a lent chain with
-- its 63 places. A chain is allowed over what the book leaves to the class.
--     routes_booked_13_exactly      with 13 exactly where no chain of any length is allowed
--     routes_booked_14_exactly      with 14 exactly where one is allowed and none is in time
--     routes_booked_late_exactly    with one of the two exactly where none is in time
-- Assumes nothing.
use mathlib.Core.List.{List}
use mathlib.Core.Logic.{◌⊎◌, ◌↔◌}
use mathlib.Core.Path.{◌≡◌}
use Prim.Native.Nat.{ℕ, ◌≤◌}
use native.Mathlib.Omega.{arith}
use lib.ListN.{length}
use Rattle.std.specs.Prelude.{Result, Err}
use Rattle.units.specs.Limits.{most_chain}
use Rattle.units.specs.declared.Ask.{Ask}
use Rattle.units.specs.declared.Refusal.{Refusal}
use Rattle.units.specs.declared.Refusal.TheVariants.{NoChain, TooLate}
use Rattle.plan.specs.Tables.{plan_of}
use Rattle.book.specs.Tables.{book_of}
use Rattle.search.specs.Route.{RoutesPlan}
use Rattle.search.specs.declared.answer.Best.{Best}
use Rattle.search.proofs.CallTheorems.{SomeAllowed, NoneAllowed, NoneInTime, refused_late_exactly}
use Rattle.search.proofs.Theorems.{refused_13_exactly, refused_14_exactly}
use Rattle.calls.specs.Booked.{with_book, Good}
use Rattle.calls.specs.Calls.{RoutesBooked, short_chain, not_routed, routed}
use Rattle.calls.proofs.BookingLaws.{stopped_good}

module _ {contacts : List ℕ} {m : ℕ} {ranges : List ℕ} {n : ℕ} {book chains : List ℕ} {ask : Ask} {class : ℕ} {before : List ℕ}
    (room : most_chain ≤ length before) (good : Good contacts m ranges n book chains ask class) where
  -- the call answers what the plan with its book gives
  booked_served : {r : Result Best Refusal} {after : List ℕ} → RoutesBooked contacts m ranges n book chains ask class before r after
      → RoutesPlan (with_book (plan_of contacts m ranges n) (book_of book chains) class) ask before r after
  booked_served (short_chain h) = absurd (omega arith)
  booked_served (not_routed l c) = absurd (stopped_good c good)
  booked_served (routed l c h) = h

  pub routes_booked_13_exactly : {r : Result Best Refusal} {after : List ℕ} → RoutesBooked contacts m ranges n book chains ask class before r after
      → (r ≡ Err NoChain) ↔ NoneAllowed (with_book (plan_of contacts m ranges n) (book_of book chains) class) ask
  routes_booked_13_exactly h = refused_13_exactly (booked_served h)

  pub routes_booked_14_exactly : {r : Result Best Refusal} {after : List ℕ} → RoutesBooked contacts m ranges n book chains ask class before r after
      → (r ≡ Err TooLate)
      ↔ (SomeAllowed (with_book (plan_of contacts m ranges n) (book_of book chains) class) ask
      × NoneInTime (with_book (plan_of contacts m ranges n) (book_of book chains) class) ask)
  routes_booked_14_exactly h = refused_14_exactly (booked_served h)

  pub routes_booked_late_exactly : {r : Result Best Refusal} {after : List ℕ} → RoutesBooked contacts m ranges n book chains ask class before r after
      → ((r ≡ Err NoChain) ⊎ (r ≡ Err TooLate)) ↔ NoneInTime (with_book (plan_of contacts m ranges n) (book_of book chains) class) ask
  routes_booked_late_exactly h = refused_late_exactly (booked_served h)
