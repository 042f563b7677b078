-- `search::routing::route` meets its contract.
-- Assumes nothing.
use mathlib.Core.Path.{◌≡◌, sym, ◌∙◌, subst}
use borrow.Author.Tests.{eqb-true, eqb-false}
use Rattle.units.specs.Asks.{GoodAsk}
use Rattle.units.specs.declared.Ask.{Ask}
use Rattle.units.specs.Limits.{most_chain}
use Rattle.plan.specs.Lent.{HoldPlan}
use Rattle.search.specs.Route.{short_chain, no_plan, bad_ask, same_node}
use Rattle.search.proofs.RouteCode.{routes_checked}
use Rattle.search.proofs.routing.route.Goals as goal

pub returns-then-chain-lt-MOST_CHAIN : goal.returns-then-chain-lt-MOST_CHAIN
unfolding most_chain
returns-then-chain-lt-MOST_CHAIN c = short_chain c.if-chain-lt-MOST_CHAIN.true

pub returns-in_default : goal.returns-in_default
unfolding most_chain
returns-in_default c = no_plan c.if-chain-lt-MOST_CHAIN.false c.in_default.ensures

pub returns-in_default-of : goal.returns-in_default-of
unfolding most_chain
returns-in_default-of c =
    bad_ask c.if-chain-lt-MOST_CHAIN.false (subst HoldPlan c.in-Some.ensures c.in-Some.plan.valid) c.in_default-of.ensures

pub returns-then-eq : goal.returns-then-eq
unfolding most_chain
returns-then-eq c =
    same_node c.if-chain-lt-MOST_CHAIN.false (subst HoldPlan c.in-Some.ensures c.in-Some.plan.valid) (subst GoodAsk c.in-Some-of.ensures c.in-Some-of.asked.good)
    (eqb-true _ _ (sym c.eq.ensures ∙ c.if-eq.true))

pub route_plan-requires : goal.route_plan-requires
unfolding most_chain
route_plan-requires c =
    (subst (λ (a : Ask). a.source.0 ≡ a.destination.0 → ⊥) (sym c.in-Some-of.ensures) (eqb-false _ _ (sym c.eq.ensures ∙ c.if-eq.false)), c.if-chain-lt-MOST_CHAIN.false)

pub returns : goal.returns
unfolding most_chain
returns c =
    routes_checked _ _ _ _ c.if-chain-lt-MOST_CHAIN.false c.in-Some.plan c.in-Some.ensures c.in-Some-of.asked c.in-Some-of.ensures
    (eqb-false _ _ (sym c.eq.ensures ∙ c.if-eq.false)) _ c.route_plan.ensures.best c.route_plan.ensures.chain
