-- `calls_book::reserving::refuse_full` meets its contract.
-- Assumes nothing.
use mathlib.Core.Path.{sym, ◌∙◌}
use native.Mathlib.Omega.{arith}
use Rattle.units.specs.Limits.{most_chain}
use Rattle.calls_book.proofs.PlacingCode.{refuse_any, full_any}
use Rattle.calls_book.proofs.reserving.refuse_full.Goals as goal

pub route_good-requires : goal.route_good-requires
unfolding most_chain
route_good-requires c = omega arith

pub returns-in-Err : goal.returns-in-Err
returns-in-Err c = refuse_any c.args.call.now (sym c.in-Err.is ∙ c.route_good.ensures.best)

pub returns-in-Ok : goal.returns-in-Ok
returns-in-Ok c = full_any c.args.call.now c.requires (sym c.in-Ok.is ∙ c.route_good.ensures.best)
