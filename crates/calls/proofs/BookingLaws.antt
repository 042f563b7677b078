-- What the promises of the calls over a plan with its book mean.
--     checked_determined                                   the checks give one answer at the most
--     checked_good, checked_holds                          a checked call is good, and that of the tables, the ask and the class
--     stopped_good                                         a good call is not refused
--     walks_booked_determined, routes_booked_determined    no two results meet a promise
--     walks_empty, routes_empty                            on an empty book the calls say what `walk` and `route` say
-- Assumes nothing.
use mathlib.Core.List.{List, []}
use mathlib.Core.Logic.{◌↔◌}
use mathlib.Core.Path.{◌≡◌, refl, sym, ap, ◌∙◌, subst}
use Prim.Native.Nat.{ℕ}
use native.Mathlib.Omega.{arith}
use Rattle.units.specs.declared.Ask.{Ask}
use Rattle.units.specs.declared.Refusal.{Refusal}
use Rattle.plan.specs.Plan.{Plan}
use Rattle.plan.specs.Tables.{plan_of}
use Rattle.service.specs.Service.{Service, service_of, unused}
use Rattle.book.specs.Book.{Booking, used}
use Rattle.book.specs.Tables.{IsBook, book_of}
use Rattle.std.specs.Prelude.{Result, Ok, Err}
use Rattle.walk.specs.declared.figures.Figures.{Figures}
use Rattle.walk.specs.Walk.{WalksPlan, Walks}
use Rattle.walk.specs.Walk as Alone
use Rattle.walk.proofs.Theorems.{walks_plan_determined}
use Rattle.search.specs.declared.answer.Best.{Best}
use Rattle.search.specs.Route.{RoutesPlan, Routes}
use Rattle.search.specs.Route as Routing
use Rattle.search.proofs.Theorems.{routes_plan_determined}
use Rattle.calls.specs.Booked.{with_book, GoodClass, Good}
use Rattle.calls.specs.Calls.{WalksBooked, stopped, walked, RoutesBooked, short_chain, not_routed, routed}
use Rattle.calls.specs.Checks.{Holds, Checked, no_plan, no_book, bad_ask, bad_class, same_node, all_good, SaidCall, call_said, said}
use Rattle.calls.specs.declared.call.CheckedCall.{CheckedCall}

-- a refusal is said as it is
same_refusal : {x y : Refusal} → said (Err x) ≡ said (Err y) → x ≡ y
same_refusal e = cc

module _ {contacts : List ℕ} {m : ℕ} {ranges : List ℕ} {n : ℕ} {book chains : List ℕ} {ask : Ask} {class : ℕ} where
  same_call : {c d : CheckedCall} → Holds contacts m ranges n book chains ask class c → Holds contacts m ranges n book chains ask class d
      → call_said c ≡ call_said d
  same_call h k =
      λ i. record {
        contacts = (h.contacts_same ∙ sym k.contacts_same) i;
        contact_count = (h.contact_count_same ∙ sym k.contact_count_same) i;
        ranges = (h.ranges_same ∙ sym k.ranges_same) i;
        range_count = (h.range_count_same ∙ sym k.range_count_same) i;
        places = (h.places_same ∙ sym k.places_same) i;
        chains = (h.chains_same ∙ sym k.chains_same) i;
        ask = (h.ask_same ∙ sym k.ask_same) i;
        class = (h.class_same ∙ sym k.class_same) i;
      }

  pub checked_determined : {a b : Result CheckedCall Refusal} → Checked contacts m ranges n book chains ask class a
      → Checked contacts m ranges n book chains ask class b → said a ≡ said b
  checked_determined (no_plan f) (no_plan f') = refl
  checked_determined (no_plan f) (no_book p' f') = absurd (f p')
  checked_determined (no_plan f) (bad_ask p' b' f') = absurd (f p')
  checked_determined (no_plan f) (bad_class p' b' a' f') = absurd (f p')
  checked_determined (no_plan f) (same_node p' b' a' c' e') = absurd (f p')
  checked_determined (no_plan f) (all_good g' h') = absurd (f g'.plan)
  checked_determined (no_book p f) (no_plan f') = absurd (f' p)
  checked_determined (no_book p f) (no_book p' f') = refl
  checked_determined (no_book p f) (bad_ask p' b' f') = absurd (f b')
  checked_determined (no_book p f) (bad_class p' b' a' f') = absurd (f b')
  checked_determined (no_book p f) (same_node p' b' a' c' e') = absurd (f b')
  checked_determined (no_book p f) (all_good g' h') = absurd (f g'.its_book)
  checked_determined (bad_ask p b f) (no_plan f') = absurd (f' p)
  checked_determined (bad_ask p b f) (no_book p' f') = absurd (f' b)
  checked_determined (bad_ask p b f) (bad_ask p' b' f') = refl
  checked_determined (bad_ask p b f) (bad_class p' b' a' f') = absurd (f a')
  checked_determined (bad_ask p b f) (same_node p' b' a' c' e') = absurd (f a')
  checked_determined (bad_ask p b f) (all_good g' h') = absurd (f g'.ask_is_good)
  checked_determined (bad_class p b a f) (no_plan f') = absurd (f' p)
  checked_determined (bad_class p b a f) (no_book p' f') = absurd (f' b)
  checked_determined (bad_class p b a f) (bad_ask p' b' f') = absurd (f' a)
  checked_determined (bad_class p b a f) (bad_class p' b' a' f') = refl
  checked_determined (bad_class p b a f) (same_node p' b' a' c' e') = absurd (f c')
  checked_determined (bad_class p b a f) (all_good g' h') = absurd (f g'.good_class)
  checked_determined (same_node p b a c e) (no_plan f') = absurd (f' p)
  checked_determined (same_node p b a c e) (no_book p' f') = absurd (f' b)
  checked_determined (same_node p b a c e) (bad_ask p' b' f') = absurd (f' a)
  checked_determined (same_node p b a c e) (bad_class p' b' a' f') = absurd (f' c)
  checked_determined (same_node p b a c e) (same_node p' b' a' c' e') = refl
  checked_determined (same_node p b a c e) (all_good g' h') = absurd (g'.differ e)
  checked_determined (all_good g h) (no_plan f') = absurd (f' g.plan)
  checked_determined (all_good g h) (no_book p' f') = absurd (f' g.its_book)
  checked_determined (all_good g h) (bad_ask p' b' f') = absurd (f' g.ask_is_good)
  checked_determined (all_good g h) (bad_class p' b' a' f') = absurd (f' g.good_class)
  checked_determined (all_good g h) (same_node p' b' a' c' e') = absurd (g.differ e')
  checked_determined (all_good g h) (all_good g' h') = ap (λ (call : SaidCall). Ok call) (same_call h h')

  pub checked_good : {call : CheckedCall} → Checked contacts m ranges n book chains ask class (Ok call) → Good contacts m ranges n book chains ask class
  checked_good (all_good g h) = g

  pub checked_holds : {call : CheckedCall} → Checked contacts m ranges n book chains ask class (Ok call)
      → Holds contacts m ranges n book chains ask class call
  checked_holds (all_good g h) = h

  pub stopped_good : {why : Refusal} → Checked contacts m ranges n book chains ask class (Err why) → Good contacts m ranges n book chains ask class → ⊥
  stopped_good (no_plan f) g = f g.plan
  stopped_good (no_book p f) g = f g.its_book
  stopped_good (bad_ask p b f) g = f g.ask_is_good
  stopped_good (bad_class p b a f) g = f g.good_class
  stopped_good (same_node p b a c e) g = g.differ e

  module _ {chain : List ℕ} where
    pub walks_booked_determined : {a b : Result Figures Refusal} → WalksBooked contacts m ranges n book chains ask class chain a
        → WalksBooked contacts m ranges n book chains ask class chain b → a ≡ b
    walks_booked_determined (stopped c) (stopped d) = ap Err (same_refusal (checked_determined c d))
    walks_booked_determined (stopped c) (walked d w) = absurd (stopped_good c d)
    walks_booked_determined (walked c w) (stopped d) = absurd (stopped_good d c)
    walks_booked_determined (walked c w) (walked d v) = walks_plan_determined w v

  module _ {before : List ℕ} where
    pub routes_booked_determined : {r s : Result Best Refusal} {after₁ after₂ : List ℕ} → RoutesBooked contacts m ranges n book chains ask class before r after₁
        → RoutesBooked contacts m ranges n book chains ask class before s after₂ → (r ≡ s) × (after₁ ≡ after₂)
    routes_booked_determined (short_chain h) (short_chain g) = (refl, refl)
    routes_booked_determined (short_chain h) (not_routed l c) = absurd (omega arith)
    routes_booked_determined (short_chain h) (routed l c r) = absurd (omega arith)
    routes_booked_determined (not_routed l c) (short_chain h) = absurd (omega arith)
    routes_booked_determined (not_routed l c) (not_routed k d) = (ap Err (same_refusal (checked_determined c d)), refl)
    routes_booked_determined (not_routed l c) (routed k d r) = absurd (stopped_good c d)
    routes_booked_determined (routed l c r) (short_chain h) = absurd (omega arith)
    routes_booked_determined (routed l c r) (not_routed k d) = absurd (stopped_good d c)
    routes_booked_determined (routed l c r) (routed k d q) = routes_plan_determined r q

-- ---- on an empty book

same_service : (p : Plan) (bs : List Booking) (class : ℕ) → bs ≡ [] → with_book p bs class ≡ service_of p unused
unfolding used
same_service p bs class empty = ap (λ (xs : List Booking). service_of p (used xs class)) empty

module _ {contacts : List ℕ} {m : ℕ} {ranges : List ℕ} {n : ℕ} {book chains : List ℕ} {ask : Ask} {class : ℕ} (its : IsBook m book chains)
    (empty : book_of book chains ≡ []) (good : GoodClass class) where
  pub walks_empty : {chain : List ℕ} {w : Result Figures Refusal} → WalksBooked contacts m ranges n book chains ask class chain w ↔ Walks contacts m ranges n ask chain w
  walks_empty {chain} = (to, from)
    where
      same : with_book (plan_of contacts m ranges n) (book_of book chains) class ≡ service_of (plan_of contacts m ranges n) unused
      same = same_service (plan_of contacts m ranges n) (book_of book chains) class empty

      to : {w : Result Figures Refusal} → WalksBooked contacts m ranges n book chains ask class chain w → Walks contacts m ranges n ask chain w
      to (stopped (no_plan f)) = Alone.no_plan f
      to (stopped (no_book p f)) = absurd (f its)
      to (stopped (bad_ask p b f)) = Alone.bad_ask p f
      to (stopped (bad_class p b a f)) = absurd (f good)
      to (stopped (same_node p b a c e)) = Alone.same_node p a e
      to (walked {w} g v) =
          Alone.walked g.plan g.ask_is_good g.differ (subst (λ (s : Service). WalksPlan s ask chain w) same v)

      from : {w : Result Figures Refusal} → Walks contacts m ranges n ask chain w → WalksBooked contacts m ranges n book chains ask class chain w
      from (Alone.no_plan f) = stopped (no_plan f)
      from (Alone.bad_ask p f) = stopped (bad_ask p its f)
      from (Alone.same_node p a e) = stopped (same_node p its a good e)
      from (Alone.walked {w} p a d v) =
          walked (record { plan = p; its_book = its; ask_is_good = a; good_class = good; differ = d })
          (subst (λ (s : Service). WalksPlan s ask chain w) (sym same) v)

  pub routes_empty : {before after : List ℕ} {r : Result Best Refusal} → RoutesBooked contacts m ranges n book chains ask class before r after
      ↔ Routes contacts m ranges n ask before r after
  routes_empty {before} = (to, from)
    where
      same : with_book (plan_of contacts m ranges n) (book_of book chains) class ≡ service_of (plan_of contacts m ranges n) unused
      same = same_service (plan_of contacts m ranges n) (book_of book chains) class empty

      to : {after : List ℕ} {r : Result Best Refusal} → RoutesBooked contacts m ranges n book chains ask class before r after → Routes contacts m ranges n ask before r after
      to (short_chain h) = Routing.short_chain h
      to (not_routed l (no_plan f)) = Routing.no_plan l f
      to (not_routed l (no_book p f)) = absurd (f its)
      to (not_routed l (bad_ask p b f)) = Routing.bad_ask l p f
      to (not_routed l (bad_class p b a f)) = absurd (f good)
      to (not_routed l (same_node p b a c e)) = Routing.same_node l p a e
      to (routed {r} {after} l g v) =
          Routing.routed l g.plan g.ask_is_good g.differ (subst (λ (s : Service). RoutesPlan s ask before r after) same v)

      from : {after : List ℕ} {r : Result Best Refusal} → Routes contacts m ranges n ask before r after → RoutesBooked contacts m ranges n book chains ask class before r after
      from (Routing.short_chain h) = short_chain h
      from (Routing.no_plan l f) = not_routed l (no_plan f)
      from (Routing.bad_ask l p f) = not_routed l (bad_ask p its f)
      from (Routing.same_node l p a e) = not_routed l (same_node p its a good e)
      from (Routing.routed {r} {after} l p a d v) =
          routed l (record { plan = p; its_book = its; ask_is_good = a; good_class = good; differ = d })
          (subst (λ (s : Service). RoutesPlan s ask before r after) (sym same) v)
