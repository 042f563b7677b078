-- `plan_light::lights::light_along` meets its contract. The loop's invariant: the walk along the list of the slot of the contact's pair has come to
-- row j; the time missing and the largest light time so far, with those of the ranges still to come, are those of all ranges.
-- Assumes nothing.
use native.Mathlib.Omega.{arith}
use Rattle.plan_light.proofs.LightsCode.{walk_starts, walk_good, walk_stops, walk_room, walk_found, walk_goes, walk_ends, next_later}
use Rattle.plan_light.proofs.lights.light_along.Goals as goal

pub overflow_sub-missing : goal.overflow_sub-missing
overflow_sub-missing c = omega (arith, c.requires.0.starts)

pub loop-j-init : goal.loop-j-init
loop-j-init c =
    let pre = c.requires in
    let rows = c.args.lists.now.listed.rows in
    walk_starts _ _ _ _ rows pre.0 _ pre.1

pub read-r-requires : goal.read-r-requires
read-r-requires c = omega (arith, c.args.lists.now.listed.rows.lent)

pub returns-then-is_behind : goal.returns-then-is_behind
returns-then-is_behind c =
    let pre = c.requires in
    let rows = c.args.lists.now.listed.rows in
    let behind = c.is_behind.ensures c.if-is_behind.true in
    walk_stops _ _ _ _ rows pre.0 _ _ _ c.loop-j.invariant c.loop-j-test.true _ c.read-r.ensures
    (c.args.lists.now.in_order behind.0) behind.1

pub shared_by-shared-requires : goal.shared_by-shared-requires
shared_by-shared-requires c =
    let pre = c.requires in
    let rows = c.args.lists.now.listed.rows in
    let inv = c.loop-j.invariant in (
      walk_good _ _ _ _ rows pre.0 _ _ _ inv c.loop-j-test.true _ c.read-r.ensures,
      pre.0,
      c.pair_of-pair.ensures,
    )

pub overflow_sub-missing-in-loop-j : goal.overflow_sub-missing-in-loop-j
overflow_sub-missing-in-loop-j c =
    let pre = c.requires in
    let rows = c.args.lists.now.listed.rows in
    walk_room _ _ _ _ rows pre.0 _ _ _ c.loop-j.invariant c.loop-j-test.true _ c.read-r.ensures _
    c.shared_by-shared.ensures

pub returns-then-missing-eq0 : goal.returns-then-missing-eq0
returns-then-missing-eq0 c =
    let pre = c.requires in
    let rows = c.args.lists.now.listed.rows in
    walk_found _ _ _ _ rows pre.0 _ _ _ c.loop-j.invariant c.loop-j-test.true _ c.read-r.ensures _
    c.shared_by-shared.ensures _ c.largest_with-light.ensures c.if-missing-eq0.true

pub next_of-j-requires : goal.next_of-j-requires
next_of-j-requires c =
    omega (arith, c.args.lists.now.listed.rows.a_row_each)

pub loop-j-smaller : goal.loop-j-smaller
loop-j-smaller c =
    let pre = c.requires in
    let rows = c.args.lists.now.listed.rows in
    omega (arith, next_later _ _ _ rows _ _ c.loop-j-test.true c.next_of-j.ensures)

pub loop-j-preserved : goal.loop-j-preserved
loop-j-preserved c =
    let pre = c.requires in
    let rows = c.args.lists.now.listed.rows in
    walk_goes _ _ _ _ rows pre.0 _ _ _ c.loop-j.invariant c.loop-j-test.true _ c.read-r.ensures _
    c.shared_by-shared.ensures _ c.largest_with-light.ensures c.if-missing-eq0.false _ c.next_of-j.ensures

pub returns : goal.returns
returns c =
    let pre = c.requires in
    let rows = c.args.lists.now.listed.rows in
    walk_ends _ _ _ _ rows pre.0 _ _ _ c.loop-j.invariant c.loop-j-test.false
