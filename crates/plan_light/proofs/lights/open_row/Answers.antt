-- `plan_light::lights::open_row` meets its contract.
-- Assumes nothing.
use mathlib.Core.Path.{refl}
use Rattle.std.proofs.Common.{rules}
use native.Mathlib.Omega.{arith}
use Rattle.plan_lists.specs.Model.{most_rows}
use Rattle.plan_light.proofs.PassCode.{past_at, past_again, passed_first, passed_behind, kept_more}
use Rattle.plan_light.proofs.lights.open_row.Goals as goal

pub returns-then-not-lists : goal.returns-then-not-lists
returns-then-not-lists c =
    let pre = c.requires in
    (passed_first _ _ _ _ _ pre.2, pre.0, refl)

pub returns-then-lt : goal.returns-then-lt
returns-then-lt c =
    let pre = c.requires in
    (passed_first _ _ _ _ _ pre.2, pre.0, refl)

pub begin_at-begin-requires : goal.begin_at-begin-requires
begin_at-begin-requires c =
    let pre = c.requires in
    (pre.0, past_at _ _ _ _ _ pre.1 refl _ c.read.ensures (search rules))

pub overflow_cast-kept : goal.overflow_cast-kept
unfolding most_rows
overflow_cast-kept c = omega (arith, c.pass_over-past.ensures.below, c.args.lists.now.listed.rows.few)

pub returns : goal.returns
returns c =
    let pre = c.requires in
    let lists = c.args.lists.now in
    let past = past_again _ _ _ _ _ _ c.begin_at-begin.ensures c.pass_over-past.ensures in
    (passed_behind _ _ _ lists.listed.rows (lists.in_order c.if-not-lists.false) _ _ _ past _ c.next_of.ensures, kept_more _ _ _ pre.0 _ _ pre.1 past.has, search rules)
