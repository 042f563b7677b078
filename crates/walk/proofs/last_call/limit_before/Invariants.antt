-- `walk::last_call::limit_before` meets its contract.
-- Assumes nothing.
use mathlib.Core.Path.{◌≡◌}
use Rattle.std.specs.Slice.Iter.{rchunks_rest, rchunks_size}
use Rattle.plan.specs.Plan.{Each}
use Rattle.units.specs.Limits.{most_chain}
use Rattle.service.specs.Held.{service_in}
use Rattle.service.specs.Service.{InPlan}
use Rattle.walk.specs.Model.{limit_before}
use Rattle.walk.proofs.last_call.limit_before.Given as goal

-- what is left of the chain, to its limit so far, comes to the same
abbrev pub invariant-loop-part : goal.invariant-loop-part
invariant-loop-part l = record {
  can_next : (goal.iterator-loop-part).can_next l.part-iterator;
  finite : (goal.iterator-loop-part).is_finite l.part-iterator;
  parts : rchunks_size l.part-iterator ≡ most_chain;
  named : Each (InPlan (service_in l.service)) (rchunks_rest l.part-iterator);
  left : limit_before (service_in l.service) l.size l.chain l.initial.before.0
      ≡ limit_before (service_in l.service) l.size (rchunks_rest l.part-iterator) l.before.0;
}
