-- `service::tables::ServedPlan::unbooked` meets its contract.
-- Assumes nothing.
use native.Mathlib.Omega.{arith}
use Rattle.service.specs.Held.{service_in}
use Rattle.service.proofs.ServiceLaws.{is_service}
use Rattle.service.proofs.tables.ServedPlan.unbooked.Goals as goal

pub invariant_of-result : goal.invariant_of-result
invariant_of-result c =
    let pre = c.requires in
    record { sound = is_service _ _ _ _ _ _ _ c.args.plan.now.valid (omega (arith, pre.0, c.serve.auto.lights)) (omega (arith, pre.1, c.serve.auto.lefts)) c.serve.ensures.0 }

pub returns : goal.returns
unfolding service_in
returns c = c.serve.ensures.0
