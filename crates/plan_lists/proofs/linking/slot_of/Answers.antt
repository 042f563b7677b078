-- `plan_lists::linking::slot_of` meets its contract.
-- Assumes nothing.
use native.Mathlib.Omega.{arith}
use Rattle.units.specs.Limits.{most_nodes}
use Rattle.plan_lists.specs.Lists.{pair_slot}
use Rattle.plan_lists.specs.Model.{slots}
use Rattle.plan_lists.proofs.linking.slot_of.Goals as goal

pub overflow_mul-result : goal.overflow_mul-result
unfolding most_nodes
overflow_mul-result c = omega arith

pub overflow_add-result : goal.overflow_add-result
unfolding most_nodes
overflow_add-result c = omega arith

pub returns : goal.returns
unfolding most_nodes pair_slot slots
returns c = (omega arith, omega arith)
