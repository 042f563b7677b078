-- A plan with an ask, seen as a network: node n of the plan is node n - 1 of the network, and contacts keep their numbers. A reader of the promises
-- may skip it.
-- Assumes nothing.
use Rattle.std.specs.Prelude.{cond, ℕ, ◌-◌, length, Option, Some, None}
use Rattle.units.specs.Limits.{most_nodes}
use Rattle.units.specs.declared.Ask.{Ask}
use Rattle.service.specs.Service.{Service, contact_of, light_in, left_in}
use Rattle.units.specs.declared.Millis.{Millis}
use Rattle.timing.specs.Hop.{is_barred}
use Rattle.timing.specs.Model.{step_over, back_over}
use Rattle.network.specs.Network.{When, at, never, Network}

abbrev pub when_of : Option Millis → When
when_of (Some t) = at t.0
when_of None = never

-- the limit before a contact; nothing goes over a barred one
unfoldable pub back_step : Service → Ask → ℕ → ℕ → ℕ
back_step p ask c limit = cond (is_barred ask (contact_of p c)) 0 (back_over (light_in p c) (left_in p c) (contact_of p c) ask.size limit)

unfoldable pub network_of : Service → Ask → Network
unfolding back_step
network_of p ask = record {
  nodes = most_nodes;
  contacts = length p.contacts;
  source = ask.source.0 - 1;
  begin = ask.time.0;
  from = λ c. (contact_of p c).from.0 - 1;
  to = λ c. (contact_of p c).to.0 - 1;
  step = λ c t. when_of (step_over p ask (contact_of p c).from.0 t c);
  back = λ c limit. back_step p ask c limit;
}

-- the node of the network that the ask's destination is
abbrev pub goal : Ask → ℕ
goal ask = ask.destination.0 - 1
