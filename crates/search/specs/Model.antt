-- The executable model of `route`: what the code computes. A reader of the promises may skip it.
-- Assumes nothing.
use Rattle.std.specs.Prelude.{cond, List, ◌++◌, ℕ, ltb, length, drop, Result, Ok, Err}
use Rattle.units.specs.declared.Ask.{Ask}
use Rattle.units.specs.declared.Refusal.{Refusal}
use Rattle.units.specs.declared.Refusal.TheVariants.{NoChain, TooLate}
use Rattle.service.specs.Service.{Service}
use Rattle.walk.specs.Model.{figures_of}
use Rattle.network.specs.Network.{When, at, never}
use Rattle.network.specs.Model.{delivery}
use Rattle.search_layers.specs.Bridge.{network_of, goal}
use Rattle.search_choice.specs.Model.{chain_of}
use Rattle.search.specs.declared.answer.Found.{Found}
use Rattle.search.specs.declared.answer.Best.{Best}

-- what is found, from when the file can be delivered
unfoldable pub found_of : Service → Ask → When → Result Found Refusal
unfolding chain_of
found_of p ask (at r) = cond (ltb r ask.deadline.0) (Ok (record { delivered = record { 0 = r }; count = length (chain_of p ask r) })) (Err TooLate)
found_of p ask never = Err NoChain

unfoldable pub find_model : Service → Ask → Result Found Refusal
unfolding found_of
find_model p ask = found_of p ask (delivery (network_of p ask) (goal ask))

-- the answer, from what is found
unfoldable pub answer_of : Service → Ask → Result Found Refusal → Result Best Refusal
unfolding chain_of figures_of
answer_of p ask (Ok found) = Ok (record { figures = figures_of p ask (chain_of p ask found.delivered.0) found.delivered.0; count = found.count })
answer_of p ask (Err why) = Err why

unfoldable pub route_model : Service → Ask → Result Best Refusal
unfolding answer_of find_model
route_model p ask = answer_of p ask (find_model p ask)

-- what the lent chain holds afterwards
unfoldable pub chain_after : Service → Ask → List ℕ → Result Found Refusal → List ℕ
unfolding chain_of
chain_after p ask before (Ok found) = chain_of p ask found.delivered.0 ++ drop found.count before
chain_after p ask before (Err why) = before

unfoldable pub route_after : Service → Ask → List ℕ → List ℕ
unfolding chain_after find_model
route_after p ask before = chain_after p ask before (find_model p ask)
