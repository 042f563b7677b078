-- `plan_light::lights::light_kept` meets its contract.
-- Assumes nothing.
use mathlib.Core.Path.{refl, sym, subst}
use Rattle.plan_lists.specs.Model.{IsPair}
use Rattle.plan_light.proofs.LightsCode.{open_covers}
use Rattle.plan_light.proofs.PassCode.{head_least, head_passed, head_open, head_none}
use Rattle.plan_light.proofs.SharedCode.{pair_nodes}
use Rattle.plan_light.proofs.lights.light_kept.Goals as goal

pub head_of-head-requires : goal.head_of-head-requires
head_of-head-requires c =
    (subst IsPair (sym c.pair_of-pair.ensures) (pair_nodes _ c.requires.0), c.args.lists.now.listed.a_slot_each)

pub returns-then-lists-head : goal.returns-then-lists-head
returns-then-lists-head c =
    let pre = c.requires in
    (head_none _ _ _ _ _ c.args.lists.now.listed pre.0 _ c.pair_of-pair.ensures _ c.head_of-head.ensures c.if-lists-head.true, pre.1, refl)

pub returns-then-is_covering : goal.returns-then-is_covering
returns-then-is_covering c =
    let pre = c.requires in
    let listed = c.args.lists.now.listed in
    let first = head_passed _ _ _ _ _ listed pre.0 _ c.pair_of-pair.ensures _ c.head_of-head.ensures in
    let covers = c.is_covering.ensures c.if-is_covering.true in
    (open_covers _ _ _ _ listed.rows pre.0 _ first c.if-lists-head.false _ c.read-r.ensures covers.0 covers.1 covers.2, pre.1, refl)

pub open_row-open-requires : goal.open_row-open-requires
open_row-open-requires c =
    let pre = c.requires in (
      pre.1,
      c.if-lists-head.false,
      head_least _ _ _ _ _ c.args.lists.now.listed pre.0 _ c.pair_of-pair.ensures _ c.head_of-head.ensures c.if-lists-head.false,
    )

pub light_along-requires : goal.light_along-requires
light_along-requires c =
    let pre = c.requires in (
      pre.0,
      head_open _ _ _ _ _ c.args.lists.now.listed pre.0 _ c.pair_of-pair.ensures _ c.head_of-head.ensures c.if-lists-head.false _ c.open_row-open.ensures.0,
    )
