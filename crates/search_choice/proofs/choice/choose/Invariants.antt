-- `search_choice::choice::choose` meets its contract. The loop's invariant: k contacts are still to be chosen before those that stand in the chain.
-- Assumes nothing.
use Prim.Native.Nat.{◌-◌}
use Rattle.units.specs.Limits.{IsNode}
use Rattle.service.specs.Held.{service_in}
use Rattle.search_layers.specs.Bridge.{network_of, goal as goal_of}
use Rattle.search_choice.proofs.ChooseCode.{Working}
use Rattle.search_choice.proofs.choice.choose.Given as goal

abbrev pub invariant-loop-k : goal.invariant-loop-k
invariant-loop-k l = Working (network_of (service_in l.service) l.ask.asked) l.initial.chain l.chain l.count (goal_of l.ask.asked) l.fn.delivered.0 l.k (l.node.0 - 1) l.limit.0
    × IsNode l.node
