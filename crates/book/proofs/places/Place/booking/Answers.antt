-- `book::places::Place::booking` meets its contract.
-- Assumes nothing.
use Rattle.std.proofs.Common.{arith, ◌+◌, ◌*◌, ◌≤◌, length}
use Rattle.units.specs.Limits.{most_chain}
use Rattle.book.specs.Tables.{count_at}
use Rattle.book.proofs.PlaceLaws.{chain_part}
use Rattle.book.proofs.places.Place.booking.Goals as goal

pub returns-clause-held : goal.returns-clause-held
unfolding most_chain
returns-clause-held c =
    let at = c.args.self.k * most_chain in
    let inside : at + count_at c.args.self.places.now c.args.self.k ≤ length c.args.self.chains.now = omega (arith, c.args.self.numbers_there, c.if-count-gt-MOST_CHAIN.false) in
    rw (chain_part c.args.self.chains.now at _ inside)
