-- `calls::routes::route_booked` meets its contract.
-- Assumes nothing.
use Rattle.std.proofs.lemmas.Result.{err_from_is_err_and}
use Rattle.units.specs.Limits.{most_chain}
use Rattle.calls.specs.Calls.{short_chain, not_routed, routed}
use Rattle.calls.proofs.BookingLaws.{checked_good, checked_holds}
use Rattle.calls.proofs.CallCode.{call_routed}
use Rattle.calls.proofs.routes.route_booked.Goals as goal

pub returns-then-chain-lt-MOST_CHAIN : goal.returns-then-chain-lt-MOST_CHAIN
unfolding most_chain
returns-then-chain-lt-MOST_CHAIN c = short_chain c.if-chain-lt-MOST_CHAIN.true

pub route_good-requires : goal.route_good-requires
unfolding most_chain
route_good-requires c = c.if-chain-lt-MOST_CHAIN.false

pub returns-in_err-call : goal.returns-in_err-call
unfolding most_chain
returns-in_err-call c =
    let p = err_from_is_err_and c.from_residual.result c.from_residual.ensures.1 in
    rw (p.1, p.2) (not_routed c.if-chain-lt-MOST_CHAIN.false (rw c.in_err-call.was at c.checks.ensures))

pub returns : goal.returns
unfolding most_chain
returns c =
    let all = rw c.in_ok-call.was at c.checks.ensures in
    let good = checked_good all in
    routed c.if-chain-lt-MOST_CHAIN.false good (call_routed (checked_holds all) good c.route_good.ensures.best c.route_good.ensures.chain)
