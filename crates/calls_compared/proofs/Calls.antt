-- What a call for a route answers where nothing is wrong with it.
--     GoodCall           nothing is wrong: a valid plan, its book, a class, and a good ask between two nodes
--     served             the plan as it serves the ask; good_sound, it is sound
--     good_at, good_by   so it is at another time and with another deadline
--     good_answers       with a chain of full length, the answer is one for the plan as it serves the ask
--     good_delivers      so it delivers, at a time or never
--     delivers_good      where an answer delivers, at a time or never, nothing is wrong with the call
-- Assumes nothing.
use mathlib.Core.List.{List}
use mathlib.Core.Path.{◌≡◌}
use Prim.Native.Nat.{ℕ, ◌≤◌}
use native.Mathlib.Omega.{arith}
use lib.ListN.{length}
use Rattle.units.specs.Limits.{most_chain, last_time}
use Rattle.std.specs.Prelude.{Result}
use Rattle.units.specs.declared.Ask.{Ask}
use Rattle.units.specs.declared.Refusal.{Refusal}
use Rattle.plan.specs.Tables.{IsPlan, plan_of}
use Rattle.service.specs.Service.{Service, Sound, service_of, unused}
use Rattle.service.proofs.ServiceLaws.{service_sound}
use Rattle.book.specs.Book.{used}
use Rattle.book.specs.Tables.{IsBook, book_of}
use Rattle.timing.specs.Chain.{ask_at}
use Rattle.units.specs.Asks.{GoodAsk}
use Rattle.network.specs.Network.{When}
use Rattle.search.specs.Route.{RoutesPlan, no_chain, too_late, best}
use Rattle.search.specs.Route as Alone
use Rattle.search.specs.declared.answer.Best.{Best}
use Rattle.calls.specs.Booked.{GoodClass}
use Rattle.calls.specs.Calls.{short_chain, not_routed, routed}
use Rattle.calls.specs.Checks.{no_plan, no_book, bad_ask, bad_class, same_node}
use Rattle.calls_compared.specs.Compared.{Over, no_book, book_beside, RoutesOver, alone, booked, Delivers, route, refused_13, refused_14, ask_by}

-- the bytes of each contact that are used
abbrev pub used_by : Over → ℕ → ℕ
used_by no_book = unused
used_by (book_beside book chains class) = used (book_of book chains) class

-- the plan as it serves the call
abbrev pub served : List ℕ → ℕ → List ℕ → ℕ → Over → Service
served contacts m ranges n over = service_of (plan_of contacts m ranges n) (used_by over)

-- the book is one for m contacts, and the class is one
abbrev pub GoodOver : ℕ → Over → Type 0
GoodOver m no_book = Unit {0}
GoodOver m (book_beside book chains class) = IsBook m book chains × GoodClass class

pub record GoodCall (contacts : List ℕ) (m : ℕ) (ranges : List ℕ) (n : ℕ) (over : Over) (ask : Ask) : Type 0 where
  pub plan : IsPlan contacts m ranges n
  pub its_book : GoodOver m over
  pub ask_is_good : GoodAsk ask
  pub differ : ask.source.0 ≡ ask.destination.0 → ⊥

module _ {contacts : List ℕ} {m : ℕ} {ranges : List ℕ} {n : ℕ} {over : Over} {ask : Ask} where
  -- at another time and with another deadline
  good_else : {t d : ℕ} → t ≤ last_time → d ≤ last_time → GoodCall contacts m ranges n over ask → GoodCall contacts m ranges n over (ask_by (ask_at ask t) d)
  good_else time due good = record {
    plan = good.plan;
    its_book = good.its_book;
    ask_is_good = record {
      source_node = good.ask_is_good.source_node;
      destination_node = good.ask_is_good.destination_node;
      time_most = time;
      size_least = good.ask_is_good.size_least;
      size_most = good.ask_is_good.size_most;
      deadline_most = due;
    };
    differ = good.differ;
  }

  pub good_at : {t : ℕ} → t ≤ last_time → GoodCall contacts m ranges n over ask → GoodCall contacts m ranges n over (ask_at ask t)
  good_at time good = good_else time good.ask_is_good.deadline_most good

  pub good_by : {d : ℕ} → d ≤ last_time → GoodCall contacts m ranges n over ask → GoodCall contacts m ranges n over (ask_by ask d)
  good_by due good = good_else good.ask_is_good.time_most due good

module _ {contacts : List ℕ} {m : ℕ} {ranges : List ℕ} {n : ℕ} where
  pub good_sound : {over : Over} {ask : Ask} → GoodCall contacts m ranges n over ask → Sound (served contacts m ranges n over)
  good_sound {over} good = service_sound (plan_of contacts m ranges n) good.plan.valid (used_by over)

  pub good_answers : {over : Over} {ask : Ask} {before after : List ℕ} {r : Result Best Refusal} → most_chain ≤ length before → GoodCall contacts m ranges n over ask
      → RoutesOver contacts m ranges n over ask before r after → RoutesPlan (served contacts m ranges n over) ask before r after
  good_answers long good (alone (Alone.short_chain h)) = absurd (omega arith)
  good_answers long good (alone (Alone.no_plan l f)) = absurd (f good.plan)
  good_answers long good (alone (Alone.bad_ask l p f)) = absurd (f good.ask_is_good)
  good_answers long good (alone (Alone.same_node l p g e)) = absurd (good.differ e)
  good_answers long good (alone (Alone.routed l p g d a)) = a
  good_answers long good (booked (short_chain h)) = absurd (omega arith)
  good_answers long good (booked (not_routed l (no_plan f))) = absurd (f good.plan)
  good_answers long good (booked (not_routed l (no_book p f))) = absurd (f good.its_book.0)
  good_answers long good (booked (not_routed l (bad_ask p b f))) = absurd (f good.ask_is_good)
  good_answers long good (booked (not_routed l (bad_class p b a f))) = absurd (f good.its_book.1)
  good_answers long good (booked (not_routed l (same_node p b a c e))) = absurd (good.differ e)
  good_answers long good (booked (routed l c a)) = a

  pub good_delivers : {over : Over} {ask : Ask} {before after : List ℕ} {r : Result Best Refusal} → most_chain ≤ length before → GoodCall contacts m ranges n over ask
      → RoutesOver contacts m ranges n over ask before r after → (w : When) × Delivers r w
  good_delivers long good a = go (good_answers long good a)
    where
      go : {p : Service} {ask : Ask} {before after : List ℕ} {r : Result Best Refusal} → RoutesPlan p ask before r after → (w : When) × Delivers r w
      go (no_chain f) = (_, refused_13)
      go (too_late a f) = (_, refused_14)
      go (best b f) = (_, route)

  pub delivers_good : {over : Over} {ask : Ask} {before after : List ℕ} {r : Result Best Refusal} {w : When} → RoutesOver contacts m ranges n over ask before r after
      → Delivers r w → GoodCall contacts m ranges n over ask × RoutesPlan (served contacts m ranges n over) ask before r after
  delivers_good (alone (Alone.routed l p g d a)) w = (record { plan = p; its_book = tt; ask_is_good = g; differ = d }, a)
  delivers_good (booked (routed l g a)) w =
      (record { plan = g.plan; its_book = (g.its_book, g.good_class); ask_is_good = g.ask_is_good; differ = g.differ }, a)
  delivers_good (alone (Alone.short_chain h)) w = elim w [ ]
  delivers_good (alone (Alone.no_plan l f)) w = elim w [ ]
  delivers_good (alone (Alone.bad_ask l p f)) w = elim w [ ]
  delivers_good (alone (Alone.same_node l p g e)) w = elim w [ ]
  delivers_good (booked (short_chain h)) w = elim w [ ]
  delivers_good (booked (not_routed l (no_plan f))) w = elim w [ ]
  delivers_good (booked (not_routed l (no_book p f))) w = elim w [ ]
  delivers_good (booked (not_routed l (bad_ask p b f))) w = elim w [ ]
  delivers_good (booked (not_routed l (bad_class p b a f))) w = elim w [ ]
  delivers_good (booked (not_routed l (same_node p b a c e))) w = elim w [ ]
