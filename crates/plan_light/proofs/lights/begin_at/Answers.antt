-- `plan_light::lights::begin_at` meets its contract.
-- Assumes nothing.

use Rattle.std.proofs.Common.{rules}
use Rattle.plan_light.proofs.PassCode.{past_kept}
use Rattle.plan_light.proofs.lights.begin_at.Goals as goal

pub returns : goal.returns
returns c =
    let pre = c.requires in
    past_kept _ _ _ pre.0 _ _ _ pre.1.below c.from-row.ensures c.if-lists-row.false _ c.read.ensures (search rules)
