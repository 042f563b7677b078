-- The chain that is booked: the best one, which the route has answered.
--     in_plan_named                  a contact is in the plan exactly where its number is one of those that the tables count
--     carries_left                   each contact of a chain that carries is in the plan, and has the consumption left
--     chosen_good, chosen_plan       where a chain is answered all is good, and the answer is that for the plan with its book
--     chosen_count, chosen_room      it has as many contacts as the answer counts, and the lent chain has room for them
--     chosen_booking                 its booking is good
--     chosen_left                    each contact that it names has the consumption left
-- Assumes nothing.
use mathlib.Core.Bool.{Bool, true, false, ◌||◌}
use mathlib.Core.List.{List}
use mathlib.Core.Logic.{◌↔◌}
use mathlib.Core.Path.{◌≡◌, refl, ap, subst}
use Prim.Native.Nat.{ℕ, ◌≤◌}
use native.Mathlib.Omega.{arith}
use borrow.Author.Tests.{eqb-true}
use lib.Dec.{eqb}
use lib.ListN.{length, take, drop, length-append}
use lib.Seq.{take_at}
use Rattle.units.specs.Limits.{most_consumption, most_size}
use Rattle.units.specs.declared.Ask.{Ask}
use Rattle.units.specs.declared.Millis.{Millis}
use Rattle.plan.specs.declared.rows.Contact.{Contact}
use Rattle.std.specs.Prelude.{Option, Some, Ok}
use Rattle.plan.specs.Plan.{Each}
use Rattle.plan.specs.Tables.{plan_of}
use Rattle.plan.proofs.Lent.{length_contacts}
use Rattle.service.specs.Service.{Service, service_of, InPlan, left_in}
use Rattle.service.proofs.ServiceLaws.{service_sound}
use Rattle.book.specs.Book.{names, used, Named, GoodBooking}
use Rattle.book.specs.Tables.{book_of}
use Rattle.timing.specs.Chain.{Carries, stays, hops}
use Rattle.timing.specs.Hop.{consumed, hopped}
use Rattle.timing.proofs.HopLaws.{Hops, over, hop_told}
use Rattle.timing.proofs.Rounding.{consumed_form, consumed_most}
use Rattle.walk.proofs.LastCallCode.{carries_named}
use Rattle.search.specs.declared.answer.Best.{Best}
use Rattle.search.specs.Route.{RoutesPlan, best}
use Rattle.search.proofs.Theorems.{route_allowed_in_time, route_short}
use Rattle.calls.specs.Booked.{with_book, Good}
use Rattle.calls.specs.Calls.{RoutesBooked, routed}
use Rattle.calls_book.specs.Placing.{booking_of}

-- whatever is used of the plan
pub in_plan_named : (contacts : List ℕ) (m : ℕ) (ranges : List ℕ) (n : ℕ) (uses : ℕ → ℕ) (c : ℕ)
    → InPlan (service_of (plan_of contacts m ranges n) uses) c ↔ Named m c
unfolding service_of
in_plan_named contacts m ranges n uses c =
    let long = length_contacts contacts m ranges n in
    (λ i. record { least = i.least; most = omega (arith, i.most, long) }, λ i. record { least = i.least; most = omega (arith, i.most, long) })

-- a file that is sent over a contact is no more than what is left on it
hop_left : (light : Option Millis) (left : ℕ) (c : Contact) (size t : ℕ) (a : Millis) → hopped light left c size t ≡ Some a → consumed size ≤ left
hop_left light left c size t a e = go (hop_told light left c size t a e)
  where
    go : {l : Option Millis} {r : ℕ} → Hops left c size t l r → consumed size ≤ left
    go (over f b q) = b

-- each contact of a chain that carries has the consumption left
pub carries_left : {p : Service} {ask : Ask} {u t : ℕ} {chain : List ℕ} {v r : ℕ} → Carries p ask u t chain v r → (c : ℕ) → names chain c ≡ true
    → InPlan p c × (consumed ask.size ≤ left_in p c)
unfolding names
carries_left stays c e = let z : ◌≡◌ {A = ℕ} 0 1 = cc in absurd (omega arith)
carries_left {p} {ask} (hops {c = d} {cs} i f b e k) c named = go (eqb d c) (eqb-true d c) named (carries_left k c)
  where
    go : (x : Bool) → (x ≡ true → d ≡ c) → (x || names cs c) ≡ true → (names cs c ≡ true → InPlan p c × (consumed ask.size ≤ left_in p c))
        → InPlan p c × (consumed ask.size ≤ left_in p c)
    go true same h rest = subst (λ n. InPlan p n × (consumed ask.size ≤ left_in p n)) (same refl) (i, hop_left _ _ _ _ _ _ e)
    go false same h rest = rest h

plan_count : {p : Service} {ask : Ask} {before : List ℕ} {b : Best} {after : List ℕ} → RoutesPlan p ask before (Ok b) after
    → length (take b.count after) ≡ b.count
plan_count {before} (best {chain} b h) = ap length (take_at chain (drop (length chain) before) (length chain) refl)

plan_room : {p : Service} {ask : Ask} {before : List ℕ} {b : Best} {after : List ℕ} → RoutesPlan p ask before (Ok b) after
    → b.count ≤ length after
plan_room {before} (best {chain} b h) = omega (arith, length-append chain (drop (length chain) before))

module _ {contacts : List ℕ} {m : ℕ} {ranges : List ℕ} {n : ℕ} {book chains : List ℕ} {ask : Ask} {class : ℕ} {before : List ℕ} {b : Best}
    {after : List ℕ} (answer : RoutesBooked contacts m ranges n book chains ask class before (Ok b) after) where
  abbrev served : Service
  served = with_book (plan_of contacts m ranges n) (book_of book chains) class

  pub chosen_good : Good contacts m ranges n book chains ask class
  chosen_good = go answer
    where
      go : RoutesBooked contacts m ranges n book chains ask class before (Ok b) after → Good contacts m ranges n book chains ask class
      go (routed l g r) = g

  pub chosen_plan : RoutesPlan served ask before (Ok b) after
  chosen_plan = go answer
    where
      go : RoutesBooked contacts m ranges n book chains ask class before (Ok b) after → RoutesPlan served ask before (Ok b) after
      go (routed l g r) = r

  pub chosen_count : length (take b.count after) ≡ b.count
  chosen_count = plan_count chosen_plan

  pub chosen_room : b.count ≤ length after
  chosen_room = plan_room chosen_plan

  chain_carries : Carries served ask ask.source.0 ask.time.0 (take b.count after) ask.destination.0 b.figures.delivery.0
  chain_carries = (route_allowed_in_time chosen_plan).0.carried

  pub chosen_booking : GoodBooking m (booking_of ask class (take b.count after))
  unfolding most_consumption most_size Each
  chosen_booking =
      let good = chosen_good in
      let sound = service_sound (plan_of contacts m ranges n) good.plan.valid (used (book_of book chains) class) in
      let short = route_short sound good.ask_is_good good.differ chosen_plan in
      record {
        class_least = good.good_class.least;
        class_most = good.good_class.most;
        consumption_least = omega (arith, consumed_form ask.size, good.ask_is_good.size_least);
        consumption_most = omega (arith, consumed_most ask.size good.ask_is_good.size_most, good.ask_is_good.size_most);
        some = (route_allowed_in_time chosen_plan).0.some_contact;
        few = omega (arith, short, chosen_count);
        named = λ blank k h.
            (in_plan_named contacts m ranges n (used (book_of book chains) class) _).0 (carries_named served ask chain_carries blank k h);
      }

  pub chosen_left : (c : ℕ) → names (take b.count after) c ≡ true → InPlan served c × (consumed ask.size ≤ left_in served c)
  chosen_left = carries_left chain_carries
