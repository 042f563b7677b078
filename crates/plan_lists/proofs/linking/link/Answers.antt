-- `plan_lists::linking::link` meets its contract.
-- Assumes nothing.
use mathlib.Core.Path.{◌≡◌}
use Prim.Native.Nat.{◌≤◌, ◌<◌}
use native.Mathlib.Omega.{arith}
use lib.ListN.{length}
use Rattle.plan_lists.specs.Model.{slots, most_rows}
use Rattle.plan_lists.proofs.LinkCode.{linked_none, linked_row, linked_all, slot_found}
use Rattle.plan_lists.proofs.LinkCode.{ordered_none, ordered_stays, ordered_stops, ordered_all}
use Rattle.plan_lists.proofs.linking.link.Goals as goal

pub overflow_cast-n : goal.overflow_cast-n
unfolding most_rows
overflow_cast-n c = record { fits = omega (arith, c.requires.few) }

pub loop-i-init : goal.loop-i-init
loop-i-init c =
    record { linked = linked_none _ _ _ _ _ (c.fill.ensures.after (λ y e. e)); in_order = ordered_none _ _ _ }

-- the row is not followed in order
pub loop-i-preserved-then-not-is_followed : goal.loop-i-preserved-then-not-is_followed
unfolding slots
loop-i-preserved-then-not-is_followed c =
    let inv = c.loop-i.invariant in
    let pre = c.requires in
    let entered = c.enter-next.ensures in
    let some : 0 < c.loop-i.i = omega arith in
    let few : c.loop-i.i ≤ c.args.n = omega arith in
    let there : c.args.n ≤ length c.loop-i.nexts = omega arith in
    let inside : c.slot_of.result < length c.loop-i.heads = omega arith in
    record {
      linked = linked_row _ _ _ _ _ _ some few (slot_found _ _ _ _ c.span_row-row.ensures c.slot_of.ensures.0) inside there _ _ _ entered inv.linked;
      in_order = ordered_stops _ _ _ _ some few there _ _ _ _ c.span_row-row.ensures c.is_followed.ensures _ entered.2 c.if-not-is_followed.true inv.in_order;
    }

-- it is
pub loop-i-preserved : goal.loop-i-preserved
unfolding slots
loop-i-preserved c =
    let inv = c.loop-i.invariant in
    let pre = c.requires in
    let entered = c.enter-next.ensures in
    let some : 0 < c.loop-i.i = omega arith in
    let few : c.loop-i.i ≤ c.args.n = omega arith in
    let there : c.args.n ≤ length c.loop-i.nexts = omega arith in
    let inside : c.slot_of.result < length c.loop-i.heads = omega arith in
    record {
      linked = linked_row _ _ _ _ _ _ some few (slot_found _ _ _ _ c.span_row-row.ensures c.slot_of.ensures.0) inside there _ _ _ entered inv.linked;
      in_order = ordered_stays _ _ _ _ some few there _ _ _ _ c.span_row-row.ensures c.is_followed.ensures _ entered.2 c.if-not-is_followed.false inv.in_order;
    }

pub returns : goal.returns
returns c =
    let inv = c.loop-i.invariant in
    let first : c.loop-i.i ≡ 0 = omega arith in (
      linked_all _ _ _ _ (rw first at inv.linked),
      omega arith,
      omega arith,
      ordered_all _ _ _ _ (rw first at inv.in_order),
    )
