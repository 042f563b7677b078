-- 'Earlier, smaller, more', of any two answers that meet the promise of the call: `route` on a plan, or `route_booked` over a plan with its book. Plan,
-- book, class and the rest of the ask are the same in both. The refusals 13 and 14 are later than any time. Answers with another refusal are not compared: a
-- later time and a larger size that are out of their range (11), or a further contact with which the plan is not valid (9).
--     later_never_earlier       asking later never delivers earlier
--     larger_never_earlier      a larger file never delivers earlier
--     further_never_later       a further contact, at the end of a plan that stays valid, never makes delivery later
--     deadline_keeps            a later deadline never turns a route away, and changes neither its delivery nor its chain
--     until_last_call           from any time between the ask's and the last call, both included, the answer is a route
-- The last two say that the second answer is no refusal at all, where the later deadline is a time and the lent chain has its 63 places.
-- Assumes nothing.
use mathlib.Core.List.{List}
use Prim.Native.Nat.{ℕ, ◌≤◌}
use native.Mathlib.Nat.{le_trans}
use lib.ListN.{length}
use Rattle.units.specs.Limits.{most_chain, last_time}
use Rattle.std.specs.Prelude.{Result, Ok}
use Rattle.units.specs.declared.Ask.{Ask}
use Rattle.units.specs.declared.Refusal.{Refusal}
use Rattle.timing.specs.Chain.{ask_at, ask_of}
use Rattle.network.specs.Network.{When, NotLater}
use Rattle.search.specs.declared.answer.Best.{Best}
use Rattle.calls_compared.specs.Compared.{Over, RoutesOver, Delivers, route, Found, KeepsRoute, ask_by, Further}
use Rattle.calls_compared.proofs.Calls.{used_by, served, good_sound, good_answers, delivers_good, good_at, good_by}
use Rattle.calls_compared.proofs.Easier.{NoHarder, Serves, serves_same, later_harder, larger_harder, same_hard}
use Rattle.calls_compared.proofs.Rows.{further_serves}
use Rattle.calls_compared.proofs.Served.{served_never_later, last_call_most, served_last_call, served_keeps}

-- a call that is no harder, of a plan that has no less, never delivers later
never_later : {contacts : List ℕ} {m : ℕ} {ranges : List ℕ} {n : ℕ} {contacts' : List ℕ} {m' : ℕ} {over : Over} {ask easy : Ask}
    {before after before' after' : List ℕ} {r r' : Result Best Refusal} {a b : When} → Serves (served contacts m ranges n over) (served contacts' m' ranges n over)
    → NoHarder ask easy → RoutesOver contacts m ranges n over ask before r after → Delivers r a
    → RoutesOver contacts' m' ranges n over easy before' r' after' → Delivers r' b → NotLater b a
never_later serves no-harder x d x' d' =
    let (good, y) = delivers_good x d in
    let (good', y') = delivers_good x' d' in
    served_never_later (good_sound good) serves no-harder y d y' d'

module _ {contacts : List ℕ} {m : ℕ} {ranges : List ℕ} {n : ℕ} {over : Over} {ask : Ask} {before after before' after' : List ℕ} {r r' : Result Best Refusal} {a b : When} where
  pub later_never_earlier : {t : ℕ} → ask.time.0 ≤ t
      → RoutesOver contacts m ranges n over ask before r after → Delivers r a
      → RoutesOver contacts m ranges n over (ask_at ask t) before' r' after' → Delivers r' b
      → NotLater a b
  later_never_earlier h x d x' d' = never_later (serves_same (served contacts m ranges n over)) (later_harder ask h) x' d' x d

  pub larger_never_earlier : {size : ℕ} → ask.size ≤ size
      → RoutesOver contacts m ranges n over ask before r after → Delivers r a
      → RoutesOver contacts m ranges n over (ask_of ask size) before' r' after' → Delivers r' b
      → NotLater a b
  larger_never_earlier h x d x' d' = never_later (serves_same (served contacts m ranges n over)) (larger_harder ask h) x' d' x d

  pub further_never_later : {contacts' : List ℕ} {m' : ℕ} → Further contacts m contacts' m'
      → RoutesOver contacts m ranges n over ask before r after → Delivers r a
      → RoutesOver contacts' m' ranges n over ask before' r' after' → Delivers r' b
      → NotLater b a
  further_never_later further x d x' d' = never_later (further_serves ranges n (used_by over) further) (same_hard ask) x d x' d'

module _ {contacts : List ℕ} {m : ℕ} {ranges : List ℕ} {n : ℕ} {over : Over} {ask : Ask} {before after before' after' : List ℕ} {b : Best} {r : Result Best Refusal} where
  pub deadline_keeps : {d : ℕ} → ask.deadline.0 ≤ d → d ≤ last_time → most_chain ≤ length before'
      → RoutesOver contacts m ranges n over ask before (Ok b) after
      → RoutesOver contacts m ranges n over (ask_by ask d) before' r after'
      → KeepsRoute b after r after'
  deadline_keeps h most long x x' =
      let (good, y) = delivers_good x route in
      served_keeps (good_sound good) ask h y (good_answers long (good_by most good) x')

  -- an earlier time than the ask's is good too
  pub until_last_call : {t : ℕ} → t ≤ b.figures.last_call.0 → most_chain ≤ length before'
      → RoutesOver contacts m ranges n over ask before (Ok b) after
      → RoutesOver contacts m ranges n over (ask_at ask t) before' r after'
      → Found r
  until_last_call h long x x' =
      let (good, y) = delivers_good x route in
      served_last_call (good_sound good) ask h y (good_answers long (good_at (le_trans h (last_call_most good.ask_is_good y)) good) x')
