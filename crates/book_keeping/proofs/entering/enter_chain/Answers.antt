-- `book_keeping::entering::enter_chain` meets its contract.
-- Assumes nothing.
use Rattle.std.proofs.Common.{rules, ◌<◌, slice_index}
use Rattle.units.specs.Limits.{most_chain}
use Rattle.plan.specs.Plan.{Each}
use Rattle.book_keeping.proofs.EnterCode.{stored_more, stored_all}
use Rattle.book_keeping.proofs.entering.enter_chain.Goals as goal

pub overflow_cast-booked : goal.overflow_cast-booked
unfolding Each
overflow_cast-booked c =
    let small : slice_index c.args.chain.now c.loop-i.i < 65_536 = c.requires.small 0 _ c.loop-i-test.true in
    search rules

pub loop-i-preserved : goal.loop-i-preserved
unfolding most_chain
loop-i-preserved c = stored_more _ _ _ c.requires.there _ _ c.loop-i.invariant c.loop-i-test.true

pub returns : goal.returns
unfolding most_chain
returns c = stored_all _ _ _ c.requires.there _ _ c.loop-i.invariant c.loop-i-test.false
