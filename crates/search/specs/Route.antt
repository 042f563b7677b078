-- What `route` promises: refusals in the order 15, 9, 11, 12, 13, 14, or the best chain with its figures ('Choice' of the request).
-- Assumes nothing.
use Rattle.std.specs.Prelude.{List, ◌++◌, ◌⊎◌, ◌≡◌, ℕ, ◌≤◌, ◌<◌, length, drop, Result, Ok, Err}
use Rattle.units.specs.Limits.{most_chain}
use Rattle.units.specs.declared.Ask.{Ask}
use Rattle.units.specs.declared.Refusal.{Refusal}
use Rattle.units.specs.declared.Refusal.TheVariants.{NoPlan, AskValue, SameNode, NoChain, TooLate, ShortChain}
use Rattle.plan.specs.Tables.{IsPlan, plan_of}
use Rattle.service.specs.Service.{Service, service_of, unused}
use Rattle.walk.specs.declared.figures.Figures.{Figures}
use Rattle.timing.specs.Chain.{Allowed}
use Rattle.walk.specs.Figures.{HasFigures}
use Rattle.units.specs.Asks.{GoodAsk}
use Rattle.network.specs.Best.{LowerBack}
use Rattle.search.specs.declared.answer.Best.{Best}

-- the chain is the best for the ask, among allowed chains of any length, and r is its delivery
pub record IsBest (p : Service) (ask : Ask) (chain : List ℕ) (r : ℕ) : Type 0 where
  pub allowed : Allowed p ask chain r
  pub none_earlier : (other : List ℕ) (s : ℕ) → Allowed p ask other s → r ≤ s
  pub none_shorter : (other : List ℕ) → Allowed p ask other r → length chain ≤ length other
  -- read from the last contact back, the lower contact number at the first difference
  pub lowest : (other : List ℕ) → Allowed p ask other r → length other ≡ length chain → (chain ≡ other) ⊎ LowerBack chain other

-- the answer for a valid plan, as it serves the ask, and a good ask between two nodes; `before` is what the lent chain holds before the call, the last list what it holds after
pub data RoutesPlan (p : Service) (ask : Ask) (before : List ℕ) : Result Best Refusal → List ℕ → Type 0 where
  -- no allowed chain at all
  no_chain : ((chain : List ℕ) (r : ℕ) → Allowed p ask chain r → ⊥) → RoutesPlan p ask before (Err NoChain) before
  -- allowed, but not in time
  too_late : {chain : List ℕ} {r : ℕ} → Allowed p ask chain r → ((other : List ℕ) (s : ℕ) → Allowed p ask other s → ask.deadline.0 ≤ s)
      → RoutesPlan p ask before (Err TooLate) before
  -- the best chain, in time: its figures, its count, and its numbers in the first places of the lent chain
  best : {chain : List ℕ} {f : Figures} → IsBest p ask chain f.delivery.0 → HasFigures p ask chain f
      → RoutesPlan p ask before (Ok (record { figures = f; count = length chain })) (chain ++ drop (length chain) before)

-- the answer for lent tables, any ask and any lent chain
pub data Routes (contacts : List ℕ) (m : ℕ) (ranges : List ℕ) (n : ℕ) (ask : Ask) (before : List ℕ) : Result Best Refusal → List ℕ → Type 0 where
  short_chain : length before < most_chain → Routes contacts m ranges n ask before (Err ShortChain) before
  no_plan : most_chain ≤ length before → (IsPlan contacts m ranges n → ⊥) → Routes contacts m ranges n ask before (Err NoPlan) before
  bad_ask : most_chain ≤ length before → IsPlan contacts m ranges n → (GoodAsk ask → ⊥) → Routes contacts m ranges n ask before (Err AskValue) before
  same_node : most_chain ≤ length before → IsPlan contacts m ranges n → GoodAsk ask → ask.source.0 ≡ ask.destination.0
      → Routes contacts m ranges n ask before (Err SameNode) before
  routed : {r : Result Best Refusal} {after : List ℕ} → most_chain ≤ length before → IsPlan contacts m ranges n → GoodAsk ask
      → (ask.source.0 ≡ ask.destination.0 → ⊥) → RoutesPlan (service_of (plan_of contacts m ranges n) unused) ask before r after → Routes contacts m ranges n ask before r after
