-- `service::serving::serve` meets its contract.
-- Assumes nothing.
use native.Mathlib.Omega.{arith}
use Rattle.plan_lists.specs.Model.{slots, most_rows}
use Rattle.service.proofs.ServingCode.{none_kept}
use Rattle.service.proofs.serving.serve.Goals as goal

pub serve_in-requires : goal.serve_in-requires
unfolding slots most_rows
serve_in-requires c = (omega arith, omega arith, none_kept _ (omega arith), c.requires.0, c.requires.1)
