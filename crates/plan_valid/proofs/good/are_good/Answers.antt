-- `plan_valid::good::are_good` meets its contract.
-- Assumes nothing.
use Rattle.plan.proofs.Loops.{each_goes, each_stops, each_ends}
use Rattle.plan_valid.proofs.good.are_good.Goals as goal

pub returns-then-not-is_good : goal.returns-then-not-is_good
returns-then-not-is_good g c =
    each_stops _ _ _ _ _ c.loop-k.invariant c.loop-k-test.true _ c.read.ensures _ c.is_good.ensures c.if-not-is_good.true

pub loop-k-preserved : goal.loop-k-preserved
loop-k-preserved g c =
    each_goes _ _ _ _ _ c.loop-k.invariant c.loop-k-test.true _ c.read.ensures _ c.is_good.ensures c.if-not-is_good.false

pub returns : goal.returns
returns g c = each_ends _ _ _ _ _ c.loop-k.invariant c.loop-k-test.false
