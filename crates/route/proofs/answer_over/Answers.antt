-- `route::answer_over` meets its contract.
-- Assumes nothing.
use Rattle.route.specs.Receipts.{no_plan, over_plan}
use Rattle.route.proofs.answer_over.Goals as goal

pub returns-in-Ok : goal.returns-in-Ok
returns-in-Ok g c = over_plan (rw c.in-Ok.is at c.read.ensures) c.answer_input.ensures

pub returns-in-Err : goal.returns-in-Err
returns-in-Err g c = no_plan (rw c.in-Err.is at c.read.ensures) c.refuse.ensures
