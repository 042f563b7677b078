-- `plan_valid::apart::are_clear` meets its contract. The loop's invariant: no later row overlaps one of the rows so far.
-- Assumes nothing.
use Rattle.plan_valid.specs.Model.{Apart}
use Rattle.plan_valid.proofs.ApartCode.{below_none, below_stops, below_goes, below_ends}
use Rattle.plan_valid.proofs.apart.are_clear.Goals as goal

pub loop-i-init : goal.loop-i-init
loop-i-init c = below_none _

pub returns-then-not-is_clear_after : goal.returns-then-not-is_clear_after
unfolding Apart
returns-then-not-is_clear_after c =
    below_stops _ _ _ c.is_clear_after.ensures _ c.loop-i-test.true c.if-not-is_clear_after.true

pub loop-i-preserved : goal.loop-i-preserved
loop-i-preserved c =
    below_goes _ _ _ c.is_clear_after.ensures c.if-not-is_clear_after.false c.loop-i.invariant

pub returns : goal.returns
unfolding Apart
returns c = below_ends _ _ _ c.loop-i-test.false c.loop-i.invariant
