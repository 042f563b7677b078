-- `plan_light::lights::pass_over` meets its contract. The loop's invariant: row j is of the list and ends by the time, and `next` is the row behind it.
-- Assumes nothing.

use native.Mathlib.Omega.{arith}
use Rattle.std.proofs.Common.{rules}
use Rattle.plan_light.proofs.LightsCode.{next_later}
use Rattle.plan_light.proofs.PassCode.{past_next}
use Rattle.plan_light.proofs.lights.pass_over.Goals as goal

pub next_of-next-requires : goal.next_of-next-requires
next_of-next-requires c =
    omega (arith, c.args.lists.now.listed.rows.a_row_each, c.requires.below)

pub loop-next-init : goal.loop-next-init
loop-next-init c = (c.requires, c.next_of-next.ensures)

pub read-requires : goal.read-requires
read-requires c = omega (arith, c.loop-next-test.true, c.args.lists.now.listed.rows.lent)

pub returns-then-lt : goal.returns-then-lt
returns-then-lt c = c.loop-next.invariant.0

pub next_of-next-requires-in-loop-next : goal.next_of-next-requires-in-loop-next
next_of-next-requires-in-loop-next c =
    omega (arith, c.loop-next-test.true, c.args.lists.now.listed.rows.a_row_each)

pub loop-next-smaller : goal.loop-next-smaller
loop-next-smaller c =
    let inv = c.loop-next.invariant in
    omega (arith, c.loop-next-test.true, next_later _ _ _ c.args.lists.now.listed.rows _ _ inv.0.below inv.1)

pub loop-next-preserved : goal.loop-next-preserved
loop-next-preserved c =
    let inv = c.loop-next.invariant in (
      past_next _ _ _ c.args.lists.now.listed.rows _ _ _ inv.0 _ inv.1 c.loop-next-test.true _ c.read.ensures (search rules),
      c.next_of-next-in-loop-next.ensures,
    )

pub returns : goal.returns
returns c = c.loop-next.invariant.0
