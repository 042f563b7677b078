-- `walk::walking::walk` meets its contract.
-- Assumes nothing.
use mathlib.Core.Path.{sym, ◌∙◌, subst}
use borrow.Author.Tests.{eqb-true, eqb-false}
use Rattle.units.specs.Asks.{GoodAsk}
use Rattle.plan.specs.Lent.{HoldPlan}
use Rattle.walk.specs.Walk.{no_plan, bad_ask, same_node}
use Rattle.walk.proofs.WalkCode.{walks_checked}
use Rattle.walk.proofs.walking.walk.Goals as goal

pub returns-in_default : goal.returns-in_default
returns-in_default c = no_plan c.in_default.ensures

pub returns-in_default-of : goal.returns-in_default-of
returns-in_default-of c = bad_ask (subst HoldPlan c.in-Some.ensures c.in-Some.plan.valid) c.in_default-of.ensures

pub returns-then-eq : goal.returns-then-eq
returns-then-eq c =
    same_node (subst HoldPlan c.in-Some.ensures c.in-Some.plan.valid) (subst GoodAsk c.in-Some-of.ensures c.in-Some-of.asked.good)
    (eqb-true _ _ (sym c.eq.ensures ∙ c.if-eq.true))

pub returns : goal.returns
returns c =
    walks_checked _ _ _ c.in-Some.plan c.in-Some.ensures c.in-Some-of.asked c.in-Some-of.ensures
    (eqb-false _ _ (sym c.eq.ensures ∙ c.if-eq.false)) _ c.walk_plan.ensures
