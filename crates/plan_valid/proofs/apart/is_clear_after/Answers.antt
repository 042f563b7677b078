-- `plan_valid::apart::is_clear_after` meets its contract. The loop's invariant: the walk has come to row j, and no row of the slot before it overlaps row i.
-- Assumes nothing.
use native.Mathlib.Omega.{arith}
use Rattle.plan_lists.specs.Lists.{Nexts}
use Rattle.plan_valid.proofs.ApartCode.{clear_starts, clear_stops, clear_goes, clear_ends}
use Rattle.plan_valid.proofs.apart.is_clear_after.Goals as goal

pub loop-j-init : goal.loop-j-init
loop-j-init c =
    let pre = c.requires in
    clear_starts _ _ _ pre.1 _ pre.2 _ c.next_of-j.ensures

pub returns-then-is_overlap : goal.returns-then-is_overlap
returns-then-is_overlap c =
    clear_stops _ _ _ c.requires.1 _ _ c.loop-j.invariant c.loop-j-test.true _ _
    c.span_row-one.ensures c.span_row.ensures _ c.is_overlap.ensures c.if-is_overlap.true

pub loop-j-smaller : goal.loop-j-smaller
unfolding Nexts
loop-j-smaller c =
    let pre = c.requires in
    omega (arith, c.next_of-j-in-loop-j.ensures, (pre.1 _ c.loop-j-test.true).no_earlier)

pub loop-j-preserved : goal.loop-j-preserved
loop-j-preserved c =
    clear_goes _ _ _ c.requires.1 _ _ c.loop-j.invariant c.loop-j-test.true _ _
    c.span_row-one.ensures c.span_row.ensures _ c.is_overlap.ensures c.if-is_overlap.false _ c.next_of-j-in-loop-j.ensures

pub returns : goal.returns
returns c =
    clear_ends _ _ _ c.requires.1 _ _ c.loop-j.invariant c.loop-j-test.false
