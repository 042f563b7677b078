-- `walk::last_call::limit_before` meets its contract.
-- Assumes nothing.
use mathlib.Core.Path.{sym, ap, ◌∙◌, subst}
use native.Mathlib.Omega.{arith}
use Rattle.std.specs.Slice.Iter.{rchunks_rest, rchunks_size}
use Rattle.units.specs.Limits.{most_chain}
use Rattle.plan.specs.Plan.{Each}
use Rattle.walk.proofs.LastCallCode.{limit_none, limit_part, each_front, each_part}
use Rattle.walk.proofs.last_call.limit_before.Goals as goal

pub loop-part-init : goal.loop-part-init
unfolding most_chain
loop-part-init c =
    let same = c.into_iter-part-iterator.ensures.into_iter_gives in
    let whole = ap rchunks_rest same ∙ c.rchunks-part-items.ensures.rest in
    let parts = ap rchunks_size same ∙ c.rchunks-part-items.ensures.size in
    record {
      can_next = omega (arith, parts);
      finite = tt;
      parts = parts;
      named = subst (Each _) (sym whole) c.requires.0;
      left = cc whole;
    }

pub limit_part-before-requires : goal.limit_part-before-requires
limit_part-before-requires c =
    let inv = c.loop-part.invariant in
    let step = c.in-Some.ensures.steps in
    (each_part _ _ _ _ step.1.0 inv.named, c.requires.1, omega (arith, step.1.1, inv.parts))

pub loop-part-preserved : goal.loop-part-preserved
loop-part-preserved c =
    let inv = c.loop-part.invariant in
    let step = c.in-Some.ensures.steps in
    record {
      can_next = omega (arith, step.0, inv.can_next);
      finite = tt;
      parts = step.0 ∙ inv.parts;
      named = each_front _ _ _ _ step.1.0 inv.named;
      left = inv.left ∙ limit_part _ _ _ _ _ _ _ step.1.0 c.limit_part-before.ensures;
    }

pub returns : goal.returns
returns c = limit_none _ _ _ _ c.in-None.ensures.steps.1.0 ∙ sym c.loop-part.invariant.left
