-- `search_choice::choice::lowest_leading` meets its contract.
-- Assumes nothing.
use mathlib.Core.Path.{◌≡◌}
use Prim.Native.Nat.{◌+◌, ◌-◌}
use Rattle.network.specs.Model.{lowest, lowest_from}
use Rattle.service.specs.Held.{service_in}
use Rattle.search_layers.specs.Bridge.{network_of}
use Rattle.search_layers.specs.Words.{layer_of}
use Rattle.search_choice.proofs.choice.lowest_leading.Given as goal

abbrev pub invariant-loop-i : goal.invariant-loop-i
invariant-loop-i l = lowest (network_of (service_in l.service) l.ask.asked) (layer_of l.words l.row) (l.node.0 - 1) l.limit.0
    ≡ lowest_from (network_of (service_in l.service) l.ask.asked) (layer_of l.words l.row) (l.node.0 - 1) l.limit.0 (l.i + 1) (l.service.contact_count - l.i)
