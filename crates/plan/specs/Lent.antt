-- What the tables of a plan, as they are lent together, hold.
--     plan_in       the plan that they hold
--     HoldPlan      they have the rows that they count, and these are a valid plan
-- Assumes nothing.
use Rattle.plan.specs.declared.tables.PlanTables.{PlanTables}
use Rattle.plan.specs.Plan.{Plan}
use Rattle.plan.specs.Tables.{plan_of, IsPlan}

abbrev pub plan_in : PlanTables → Plan
plan_in t = plan_of t.contacts.now t.contact_count t.ranges.now t.range_count

abbrev pub HoldPlan : PlanTables → Type 0
HoldPlan t = IsPlan t.contacts.now t.contact_count t.ranges.now t.range_count
