-- What is said of an allowed chain in time: opens, last call and room, as 'Timing a chain' of the request has them.
-- Assumes nothing.
use Rattle.std.specs.Prelude.{List, ◌≡◌, ℕ, ◌≤◌, ◌<◌, get_or}
use Rattle.units.specs.Limits.{most_size}
use Rattle.units.specs.declared.Ask.{Ask}
use Rattle.service.specs.Service.{Service, contact_of}
use Rattle.timing.specs.Chain.{Allowed, InTime, ask_at, ask_of}
use Rattle.timing.specs.Hop.{start_on}
use Rattle.walk.specs.declared.figures.Figures.{Figures}

-- the greatest time, not before the ask's, from which the same chain is still allowed and in time
pub record IsLastCall (p : Service) (ask : Ask) (chain : List ℕ) (t : ℕ) : Type 0 where
  pub not_before : ask.time.0 ≤ t
  pub still : InTime p (ask_at ask t) chain
  pub greatest : (s : ℕ) → ask.time.0 ≤ s → InTime p (ask_at ask s) chain → s ≤ t

-- the greatest size up to 1,000,000,000 that the same chain, from the ask's time, carries in time
pub record IsRoom (p : Service) (ask : Ask) (chain : List ℕ) (n : ℕ) : Type 0 where
  pub most : n ≤ most_size
  pub carried : InTime p (ask_of ask n) chain
  pub greatest : (m : ℕ) → m ≤ most_size → InTime p (ask_of ask m) chain → m ≤ n

-- the figures of an allowed chain in time
pub record HasFigures (p : Service) (ask : Ask) (chain : List ℕ) (f : Figures) : Type 0 where
  pub allowed : Allowed p ask chain f.delivery.0
  pub in_time : f.delivery.0 < ask.deadline.0
  -- the start on the first contact
  pub opens : f.opens.0 ≡ start_on (contact_of p (get_or chain 0 0)) ask.time.0
  pub last_call : IsLastCall p ask chain f.last_call.0
  pub room : IsRoom p ask chain f.room
