-- `plan_valid::apart::are_apart` meets its contract.
-- Assumes nothing.
use native.Mathlib.Omega.{arith}
use Rattle.plan.specs.Verdict.{holds}
use Rattle.plan.proofs.Verdicts.{true_holds}
use Rattle.plan_valid.specs.Model.{Below}
use Rattle.plan_valid.proofs.ApartCode.{order_apart}
use Rattle.plan_valid.proofs.apart.are_apart.Goals as goal

pub link-requires : goal.link-requires
unfolding Below
link-requires c =
    let pre = c.requires in
    record {
      few = pre.0.few;
      lent = pre.0.lent;
      a_slot_each = pre.1.a_slot_each;
      a_row_each = omega (arith, pre.0.few, pre.1.a_row_each);
      pairs = pre.0.pairs;
    }

pub returns-then-link : goal.returns-then-link
returns-then-link c =
    let pre = c.requires in
    let linked = c.link.ensures in
    holds (order_apart _ _ _ linked.0.next pre.0.starts (true_holds linked.3 c.if-link.true))
