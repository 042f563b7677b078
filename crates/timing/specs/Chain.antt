-- Chains of contacts, as 'Timing a chain' of the request has them. A chain is a list of contact numbers.
--     Carries         a chain carries the file from a node and a time to a node and a time
--     Allowed         it is allowed for an ask, and when it delivers; InTime
-- Assumes nothing.
use Rattle.std.specs.Prelude.{false, List, [], ◌∷◌, ◌≡◌, ℕ, ◌≤◌, ◌<◌, length, Some}
use Rattle.units.specs.declared.Ask.{Ask}
use Rattle.service.specs.Service.{Service, contact_of, light_in, left_in, InPlan}
use Rattle.timing.specs.Hop.{hopped, is_barred}

-- The file, ready at node u at time t, is carried by the chain to node v and is ready there at time r: each contact is from the node where the
-- file is, is not barred, is ranged and fits. `p` is the plan as it serves the ask.
pub data Carries (p : Service) (ask : Ask) : ℕ → ℕ → List ℕ → ℕ → ℕ → Type 0 where
  stays : {u t : ℕ} → Carries p ask u t [] u t
  hops : {u t s v r c : ℕ} {cs : List ℕ}
      → InPlan p c
      → (contact_of p c).from.0 ≡ u
      → is_barred ask (contact_of p c) ≡ false
      → hopped (light_in p c) (left_in p c) (contact_of p c) ask.size t ≡ Some (record { 0 = s })
      → Carries p ask (contact_of p c).to.0 s cs v r
      → Carries p ask u t (c ∷ cs) v r

-- the chain is allowed for the ask, and delivers at r: at least one contact, from the source to the destination
pub record Allowed (p : Service) (ask : Ask) (chain : List ℕ) (r : ℕ) : Type 0 where
  pub some_contact : 1 ≤ length chain
  pub carried : Carries p ask ask.source.0 ask.time.0 chain ask.destination.0 r

-- it is allowed, and delivers below the deadline
pub record InTime (p : Service) (ask : Ask) (chain : List ℕ) : Type 0 where
  pub delivery : ℕ
  pub allowed : Allowed p ask chain delivery
  pub early : delivery < ask.deadline.0

-- the same ask at another time, and for another size
abbrev pub ask_at : Ask → ℕ → Ask
ask_at ask t = record {
  source = ask.source;
  destination = ask.destination;
  time = record { 0 = t };
  size = ask.size;
  deadline = ask.deadline;
  excluded = ask.excluded;
}

abbrev pub ask_of : Ask → ℕ → Ask
ask_of ask n = record {
  source = ask.source;
  destination = ask.destination;
  time = ask.time;
  size = n;
  deadline = ask.deadline;
  excluded = ask.excluded;
}
