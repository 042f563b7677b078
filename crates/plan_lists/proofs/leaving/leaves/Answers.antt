-- `plan_lists::leaving::leaves` meets its contract.
-- Assumes nothing.
use Rattle.plan_lists.proofs.LinkCode.{node_found}
use Rattle.plan_lists.proofs.leaving.leaves.Goals as goal

pub returns : goal.returns
returns c = node_found _ _ _ c.read.ensures c.requires.1
