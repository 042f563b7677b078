-- `calls_book::reserving::book_route` meets its contract.
-- Assumes nothing.
use mathlib.Core.Path.{sym, ◌∙◌}
use native.Mathlib.Omega.{arith}
use lib.Seq.{length-take-le}
use Rattle.std.proofs.lemmas.Option.{MatchOption-at_some}
use Rattle.std.proofs.lemmas.Result.{err_from_is_err_and}
use Rattle.units.specs.Limits.{most_chain}
use Rattle.calls.specs.Calls as Route
use Rattle.calls.proofs.BookingLaws.{checked_good, checked_holds}
use Rattle.calls_book.specs.Model.{RefusedFor}
use Rattle.calls_book.specs.Placing.{not_routed}
use Rattle.calls_book.proofs.PlacingCode.{refused_as, refused_route, counted, bookable, placed_route}
use Rattle.calls_book.proofs.reserving.book_route.Goals as goal

pub returns-then-chain-lt-MOST_CHAIN : goal.returns-then-chain-lt-MOST_CHAIN
unfolding most_chain
returns-then-chain-lt-MOST_CHAIN c = not_routed (Route.short_chain c.if-chain-lt-MOST_CHAIN.true)

pub returns-in_err-call : goal.returns-in_err-call
unfolding most_chain
returns-in_err-call c =
    let p = err_from_is_err_and c.from_residual.result c.from_residual.ensures.1 in
    rw (p.1, p.2) (not_routed (Route.not_routed c.if-chain-lt-MOST_CHAIN.false (rw c.in_err-call.was at c.checks.ensures)))

pub lowest_free-requires : goal.lowest_free-requires
lowest_free-requires c = (checked_good (rw c.in_ok-call.was at c.checks.ensures)).its_book.places_lent

pub returns-in_default : goal.returns-in_default
unfolding most_chain RefusedFor
returns-in_default c =
    let all = rw c.in_ok-call.was at c.checks.ensures in
    refused_as (checked_holds all) _ c.refuse_full.ensures _ c.if-chain-lt-MOST_CHAIN.false

pub route_good-requires : goal.route_good-requires
unfolding most_chain
route_good-requires c = c.if-chain-lt-MOST_CHAIN.false

pub returns-in_err-figures : goal.returns-in_err-figures
unfolding most_chain
returns-in_err-figures c =
    let all = rw c.in_ok-call.was at c.checks.ensures in
    let p = err_from_is_err_and c.from_residual-in_err-figures.result c.from_residual-in_err-figures.ensures.1 in
    rw (p.1, p.2)
    (refused_route (checked_holds all) (checked_good all) _ c.if-chain-lt-MOST_CHAIN.false (sym c.in_err-figures.was ∙ c.route_good.ensures.best)
    c.route_good.ensures.chain)

pub slice_bounds-book_chain-end : goal.slice_bounds-book_chain-end
unfolding most_chain
slice_bounds-book_chain-end c =
    let all = rw c.in_ok-call.was at c.checks.ensures in
    omega (
      arith,
      counted (checked_holds all) (checked_good all) _ c.if-chain-lt-MOST_CHAIN.false (sym c.in_ok-figures.was ∙ c.route_good.ensures.best)
          c.route_good.ensures.chain,
    )

pub slice_bounds-book_chain-end-2 : goal.slice_bounds-book_chain-end-2
unfolding most_chain
slice_bounds-book_chain-end-2 c =
    let all = rw c.in_ok-call.was at c.checks.ensures in
    let within =
    counted (checked_holds all) (checked_good all) _ c.if-chain-lt-MOST_CHAIN.false (sym c.in_ok-figures.was ∙ c.route_good.ensures.best)
    c.route_good.ensures.chain in
    omega (arith, length-take-le c.in_ok-figures.field-0.count c.route_good.new.chain within)

pub book_chain-requires : goal.book_chain-requires
unfolding most_chain
book_chain-requires c =
    let all = rw c.in_ok-call.was at c.checks.ensures in
    bookable (checked_holds all) (checked_good all) _ c.if-chain-lt-MOST_CHAIN.false (sym c.in_ok-figures.was ∙ c.route_good.ensures.best)
    c.route_good.ensures.chain (MatchOption-at_some _ _ _ c.in-Some.is c.lowest_free.ensures)

pub returns : goal.returns
unfolding most_chain
returns c =
    let all = rw c.in_ok-call.was at c.checks.ensures in
    placed_route (checked_holds all) (checked_good all) _ c.if-chain-lt-MOST_CHAIN.false (sym c.in_ok-figures.was ∙ c.route_good.ensures.best)
    c.route_good.ensures.chain (MatchOption-at_some _ _ _ c.in-Some.is c.lowest_free.ensures) c.book_chain.ensures.places c.book_chain.ensures.chains
