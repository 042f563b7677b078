-- `desk::answering::answer_refused` meets its contract.
-- Assumes nothing.
use Rattle.std.proofs.Common.{subst}
use Rattle.plan.specs.Lent.{HoldPlan}
use Rattle.desk.specs.Answering.{over_plan, over_none}
use Rattle.desk.proofs.answering.answer_refused.Goals as goal

pub returns-in-Some : goal.returns-in-Some
returns-in-Some c = over_plan (subst HoldPlan c.in-Some.ensures c.in-Some.field-0.valid) c.write_answer.ensures

pub returns-in-None : goal.returns-in-None
returns-in-None c = over_none c.in-None.ensures c.write_answer-in-None.ensures
