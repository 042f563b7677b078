-- `calls::walks::walk_good` meets its contract.
-- Assumes nothing.
use mathlib.Core.Path.{ap, ◌∙◌}
use Rattle.walk.specs.Model.{walk_model}
use Rattle.calls.proofs.walks.walk_good.Goals as goal

pub returns : goal.returns
returns c = c.walk_served.ensures ∙ ap (λ s. walk_model s c.args.call.now.ask.asked c.args.chain.now) c.serve_booked-service.ensures
