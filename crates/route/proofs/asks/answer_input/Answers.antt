-- `route::asks::answer_input` meets its contract.
-- Assumes nothing.
use Rattle.route.proofs.asks.answer_input.Goals as goal

pub returns : goal.returns
returns g c = record { input = _; done = c.answer_all.ensures }
