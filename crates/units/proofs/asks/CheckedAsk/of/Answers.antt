-- `units::asks::CheckedAsk::of` meets its contract.
-- Assumes nothing.
use Rattle.std.proofs.Common.{sym, ◌∙◌}
use Rattle.units.proofs.AskLaws.{good_ask_says, good_ask_passes}
use Rattle.units.proofs.asks.CheckedAsk.of.Goals as goal

pub invariant_of-result : goal.invariant_of-result
invariant_of-result c = record { good = good_ask_says _ (sym c.is_good_ask.ensures ∙ c.if-is_good_ask.true) }

pub returns-else-is_good_ask : goal.returns-else-is_good_ask
returns-else-is_good_ask c =
    λ good. let fails = sym c.is_good_ask.ensures ∙ c.if-is_good_ask.false in let passes = good_ask_passes _ good in cc
