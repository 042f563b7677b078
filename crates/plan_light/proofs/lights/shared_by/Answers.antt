-- `plan_light::lights::shared_by` meets its contract.
-- Assumes nothing.
use Rattle.std.proofs.Common.{rules, ◌∙◌}
use Rattle.plan_light.proofs.SharedCode.{joining_joins, apart_shares, shared_is}
use Rattle.plan_light.proofs.lights.shared_by.Goals as goal

pub returns-then-not-is_joining : goal.returns-then-not-is_joining
returns-then-not-is_joining c =
    let pre = c.requires in
    apart_shares _ _ _ pre.2 _ c.is_joining.ensures c.if-not-is_joining.true pre.0

pub returns : goal.returns
returns c =
    let names = joining_joins c.args.r c.args.c _ c.requires.2 _ c.is_joining.ensures c.if-not-is_joining.false in
    c.saturating_sub.ensures ∙ shared_is _ _ names c.max-start.result.0 c.min-end.result.0 (search rules) (search rules)
