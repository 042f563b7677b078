-- What `walk` promises: refusals in the order 9, 11, 12, 18 to 23, 14, or the chain's figures.
-- Assumes nothing.
use Rattle.std.specs.Prelude.{List, ◌≡◌, ℕ, ◌≤◌, Result, Ok, Err}
use Rattle.units.specs.Asks.{GoodAsk}
use Rattle.units.specs.declared.Ask.{Ask}
use Rattle.units.specs.declared.Refusal.{Refusal}
use Rattle.units.specs.declared.Refusal.TheVariants.{NoPlan, AskValue, SameNode, TooLate}
use Rattle.plan.specs.Tables.{IsPlan, plan_of}
use Rattle.service.specs.Service.{Service, service_of, unused}
use Rattle.walk.specs.declared.figures.Figures.{Figures}
use Rattle.timing.specs.Chain.{Allowed}
use Rattle.walk_cause.specs.Cause.{TurnedDown}
use Rattle.walk.specs.Figures.{HasFigures}

-- the answer for a valid plan, as it serves the ask, and a good ask between two nodes
pub data WalksPlan (p : Service) (ask : Ask) (chain : List ℕ) : Result Figures Refusal → Type 0 where
  turned_down : {why : Refusal} → TurnedDown p ask chain why → WalksPlan p ask chain (Err why)
  too_late : {r : ℕ} → Allowed p ask chain r → ask.deadline.0 ≤ r → WalksPlan p ask chain (Err TooLate)
  carried : {f : Figures} → HasFigures p ask chain f → WalksPlan p ask chain (Ok f)

-- the answer for lent tables, any ask and any chain
pub data Walks (contacts : List ℕ) (m : ℕ) (ranges : List ℕ) (n : ℕ) (ask : Ask) (chain : List ℕ) : Result Figures Refusal → Type 0 where
  no_plan : (IsPlan contacts m ranges n → ⊥) → Walks contacts m ranges n ask chain (Err NoPlan)
  bad_ask : IsPlan contacts m ranges n → (GoodAsk ask → ⊥) → Walks contacts m ranges n ask chain (Err AskValue)
  same_node : IsPlan contacts m ranges n → GoodAsk ask → ask.source.0 ≡ ask.destination.0 → Walks contacts m ranges n ask chain (Err SameNode)
  walked : {w : Result Figures Refusal} → IsPlan contacts m ranges n → GoodAsk ask → (ask.source.0 ≡ ask.destination.0 → ⊥)
      → WalksPlan (service_of (plan_of contacts m ranges n) unused) ask chain w → Walks contacts m ranges n ask chain w
