-- What the code knows that books a route or releases a booking.
--     refused_as                       a refusal for a checked call is one for the tables that were checked
--     refuse_any, full_any             a refusal, and a full book, whatever chain is lent
--     answer_routes                    what `route_good` gives is the answer promised
--     refused_route, placed_route      nothing is booked where there is no route, and a route is booked in its place
--     counted, bookable, front_entered      its chain can be booked there, with the consumption of the ask
--     plan_fails, plan_holds           what the test of a plan says
--     freed_place                      a booking is released
-- Assumes nothing.
use mathlib.Core.List.{List}
use mathlib.Core.Path.{◌≡◌, refl, sym, ap, ◌∙◌, subst}
use Prim.Native.Nat.{ℕ, suc, ◌+◌, ◌-◌, ◌≤◌}
use native.Mathlib.Omega.{arith}
use lib.ListN.{length, take}
use Rattle.std.proofs.Math.Path.{transport}
use Rattle.std.specs.Prelude.{true, false, Option, Some, None, is_some, MatchOption, Result, Ok, Err}
use Rattle.units.specs.Limits.{most_chain}
use Rattle.units.specs.declared.Ask.{Ask}
use Rattle.units.specs.declared.Refusal.{Refusal}
use Rattle.units.specs.declared.Refusal.TheVariants.{FullBook}
use Rattle.plan.specs.Lent.{HoldPlan}
use Rattle.plan.specs.Tables.{IsPlan, plan_of}
use Rattle.plan.specs.declared.tables.PlanTables.{PlanTables}
use Rattle.plan.proofs.Lent.{contacts_counted}
use Rattle.plan_valid.specs.declared.checked.CheckedPlan.{CheckedPlan}
use Rattle.service.specs.Service.{Service}
use Rattle.book.specs.Tables.{IsBook, book_of}
use Rattle.book_keeping.specs.Keeping.{IsLowestFree, AllOpen, entered, entered_chain, freed}
use Rattle.timing.specs.Hop.{consumed}
use Rattle.search.specs.declared.answer.Best.{Best}
use Rattle.search.specs.Model.{route_model, route_after}
use Rattle.search.specs.Route.{RoutesPlan, no_chain, too_late}
use Rattle.calls.specs.Booked.{with_book, Good}
use Rattle.calls.specs.Calls.{RoutesBooked, routed}
use Rattle.calls.specs.Checks.{Holds}
use Rattle.calls.specs.Model.{service_for}
use Rattle.calls.specs.declared.call.CheckedCall.{CheckedCall}
use Rattle.calls.proofs.CallCode.{call_routed, call_good, call_holds}
use Rattle.calls_book.specs.Model.{RefusedFor, Bookable}
use Rattle.calls_book.specs.Placing.{booking_of, BooksRoute, not_routed, full, placed, OpenAt, Releases, released}
use Rattle.calls_book.proofs.ChosenLaws.{chosen_room, chosen_booking}

-- a route that is refused leaves the lent chain as it is
plan_refused : {p : Service} {ask : Ask} {before : List ℕ} {why : Refusal} {after : List ℕ} → RoutesPlan p ask before (Err why) after → after ≡ before
plan_refused (no_chain f) = refl
plan_refused (too_late a l) = refl

module _ {contacts : List ℕ} {m : ℕ} {ranges : List ℕ} {n : ℕ} {book chains : List ℕ} {ask : Ask} {class : ℕ} {call : CheckedCall}
    (same : Holds contacts m ranges n book chains ask class call) where
  -- why that call is refused, whatever chain is lent
  pub refused_as : (why : Refusal)
      → RefusedFor call.plan.tables.contacts.now call.plan.tables.contact_count call.plan.tables.ranges.now call.plan.tables.range_count call.book.places.now
      call.book.chains.now call.ask.asked call.class why
      → RefusedFor contacts m ranges n book chains ask class why
  refused_as why h =
      transport
      (λ i. RefusedFor (same.contacts_same i) (same.contact_count_same i) (same.ranges_same i) (same.range_count_same i) (same.places_same i)
      (same.chains_same i) (same.ask_same i) (same.class_same i) why) h

  module _ (good : Good contacts m ranges n book chains ask class) (before : List ℕ) (long : most_chain ≤ length before) where
    pub answer_routes : {r : Result Best Refusal} {after : List ℕ} → r ≡ route_model (service_for call) call.ask.asked
        → after ≡ route_after (service_for call) call.ask.asked before → RoutesBooked contacts m ranges n book chains ask class before r after
    answer_routes e f = routed long good (call_routed same good e f)

    pub refused_route : {why : Refusal} {after : List ℕ} → Err why ≡ route_model (service_for call) call.ask.asked
        → after ≡ route_after (service_for call) call.ask.asked before
        → BooksRoute contacts m ranges n book chains ask class before (Err why) book chains after
    refused_route {why} e f =
        let plan = call_routed same good e f in
        let kept = plan_refused plan in
        subst (BooksRoute contacts m ranges n book chains ask class before (Err why) book chains) (sym kept)
        (not_routed (routed long good (subst (RoutesPlan (with_book (plan_of contacts m ranges n) (book_of book chains) class) ask before (Err why)) kept plan)))

    -- a route is found
    module _ {b : Best} {after : List ℕ} (e : Ok b ≡ route_model (service_for call) call.ask.asked)
        (f : after ≡ route_after (service_for call) call.ask.asked before) where
      pub counted : b.count ≤ length after
      counted = chosen_room (answer_routes e f)

      pub bookable : {k : ℕ} → IsLowestFree book k → Bookable book chains k ask class (take b.count after)
      bookable low = record {
        m = m;
        m_most = contacts_counted contacts m ranges n good.plan;
        its_book = good.its_book;
        inside = low.inside;
        size_most = good.ask_is_good.size_most;
        good = chosen_booking (answer_routes e f);
      }

      pub placed_route : {k : ℕ} → IsLowestFree book k → {book' chains' : List ℕ}
          → book' ≡ entered book k (booking_of ask class (take b.count after)) → chains' ≡ entered_chain chains k (take b.count after)
          → BooksRoute contacts m ranges n book chains ask class before (Ok (record { figures = b.figures; count = b.count; place = k + 1 })) book' chains'
          after
      placed_route {k} low places_stored chains_stored =
          let more : k + 1 ≡ suc k = omega arith in
          rw (more, places_stored, chains_stored) (placed (answer_routes e f) low)

-- ---- a checked call, said of its own tables

module _ (call : CheckedCall) where
  pub refuse_any : {why : Refusal} → Err why ≡ route_model (service_for call) call.ask.asked
      → RefusedFor call.plan.tables.contacts.now call.plan.tables.contact_count call.plan.tables.ranges.now call.plan.tables.range_count
      call.book.places.now call.book.chains.now call.ask.asked call.class why
  unfolding RefusedFor
  refuse_any e before long =
      let kept = plan_refused (call_routed (call_holds call) (call_good call) {before = before} e refl) in
      refused_route (call_holds call) (call_good call) before long e (sym kept)

  pub full_any : AllOpen call.book.places.now → {b : Best} → Ok b ≡ route_model (service_for call) call.ask.asked
      → RefusedFor call.plan.tables.contacts.now call.plan.tables.contact_count call.plan.tables.ranges.now call.plan.tables.range_count
      call.book.places.now call.book.chains.now call.ask.asked call.class FullBook
  unfolding RefusedFor
  full_any all e before long = full (answer_routes (call_holds call) (call_good call) before long e refl) all

-- what is entered is the booking of the ask
pub front_entered : (book : List ℕ) (k : ℕ) (ask : Ask) (class : ℕ) (chain book' : List ℕ) (bytes : ℕ) → bytes ≡ consumed ask.size
    → book' ≡ entered book k (record { class = class; consumption = bytes; chain = chain }) → book' ≡ entered book k (booking_of ask class chain)
front_entered book k ask class chain book' bytes e stored = stored ∙ ap (λ (x : ℕ). entered book k (record { class = class; consumption = x; chain = chain })) e

-- lent tables that were tried as a plan
module _ (tables : PlanTables) where
  pub plan_fails : (r : Option CheckedPlan) → MatchOption r (HoldPlan tables → ⊥) (λ p. p.tables ≡ tables) → is_some r ≡ false → HoldPlan tables → ⊥
  plan_fails None fails e = fails
  plan_fails (Some p) same e = let z : ◌≡◌ {A = ℕ} 0 1 = cc in absurd (omega arith)

  pub plan_holds : (r : Option CheckedPlan) → MatchOption r (HoldPlan tables → ⊥) (λ p. p.tables ≡ tables) → is_some r ≡ true → HoldPlan tables
  plan_holds (Some p) same e = subst HoldPlan same p.valid
  plan_holds None fails e = let z : ◌≡◌ {A = ℕ} 0 1 = cc in absurd (omega arith)

pub freed_place : (contacts : List ℕ) (m : ℕ) (ranges : List ℕ) (n : ℕ) (book chains : List ℕ) → IsPlan contacts m ranges n → IsBook m book chains
    → (place : ℕ) → OpenAt contacts m ranges n book chains place → (book' : List ℕ) → book' ≡ freed book (place - 1)
    → Releases contacts m ranges n book chains place (Ok tt) book'
freed_place contacts m ranges n book chains plan its place is book' e = rw e (released plan its is)
