-- `calls_book::reserving::book_chain` meets its contract.
-- Assumes nothing.
use native.Mathlib.Omega.{arith}
use Rattle.units.specs.Limits.{most_contacts}
use Rattle.book.proofs.PlaceLaws.{place_there}
use Rattle.book_keeping.proofs.CallLaws.{chain_fits}
use Rattle.calls_book.proofs.PlacingCode.{front_entered}
use Rattle.calls_book.proofs.reserving.book_chain.Goals as goal

pub enter-requires : goal.enter-requires
unfolding most_contacts
enter-requires c =
    let pre = c.requires in
    (place_there _ _ _ pre.its_book _ pre.inside, chain_fits _ _ _ pre.its_book _ pre.inside _ pre.good (omega (arith, pre.m_most)))

pub returns-clause-places : goal.returns-clause-places
returns-clause-places c = front_entered _ _ c.args.ask _ _ _ _ c.consumption-bytes.ensures c.enter.ensures.0
