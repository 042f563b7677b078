-- The executable model of the choice: what the code computes. A reader of the promises may skip it.
-- Assumes nothing.
use Rattle.std.specs.Prelude.{List, ℕ}
use Rattle.units.specs.declared.Ask.{Ask}
use Rattle.service.specs.Service.{Service}
use Rattle.network.specs.Model.{chosen}
use Rattle.search_layers.specs.Bridge.{network_of, goal}

-- the chain chosen for a delivery at r
unfoldable pub chain_of : Service → Ask → ℕ → List ℕ
chain_of p ask r = chosen (network_of p ask) (goal ask) r
