-- `plan::valid::is_clear` meets its contract. The loop's invariant: the test of all rows from row k on is the test of those still to come.
-- Assumes nothing.
use mathlib.Core.Bool.{not}
use mathlib.Core.Path.{ap}
use Rattle.plan.proofs.Loops.{each_goes, each_stops, each_ends}
use Rattle.plan.proofs.valid.is_clear.Goals as goal

pub returns-then-is_overlap : goal.returns-then-is_overlap
returns-then-is_overlap c =
    each_stops _ _ _ _ _ c.loop-j.invariant c.loop-j-test.true _ c.span_row.ensures _
    (ap not c.is_overlap.ensures) (ap not c.if-is_overlap.true)

pub loop-j-preserved : goal.loop-j-preserved
loop-j-preserved c =
    each_goes _ _ _ _ _ c.loop-j.invariant c.loop-j-test.true _ c.span_row.ensures _
    (ap not c.is_overlap.ensures) (ap not c.if-is_overlap.false)

pub returns : goal.returns
returns c = each_ends _ _ _ _ _ c.loop-j.invariant c.loop-j-test.false
