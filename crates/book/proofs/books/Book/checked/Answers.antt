-- `book::books::Book::checked` meets its contract.
-- Assumes nothing.
use Rattle.std.proofs.Common.{not-le_of_lt}
use Rattle.units.specs.Limits.{most_places, most_chain}
use Rattle.plan.specs.Verdict.{holds, fails}
use Rattle.book.proofs.ValidCode.{book_stops, book_whole}
use Rattle.book.proofs.books.Book.checked.Goals.{then-places-via-then-places, then-places-via-else-places+then-chains}
use Rattle.book.proofs.books.Book.checked.Goals as goal

pub returns-then-places-clause-exactly : goal.returns-then-places-clause-exactly
unfolding most_places most_chain
returns-then-places-clause-exactly c =
    elim c.then-places.branch [
      | then-places-via-then-places w ↦ fails (λ b. not-le_of_lt w.if-places.true b.places_lent)
      | then-places-via-else-places+then-chains w ↦ fails (λ b. not-le_of_lt w.if-chains.true b.chains_lent)
    ]

pub returns-then-not-is_good-clause-exactly : goal.returns-then-not-is_good-clause-exactly
unfolding most_places
returns-then-not-is_good-clause-exactly c =
    book_stops _ _ _ _ c.loop-k-test.true _ c.is_good.ensures c.if-not-is_good.true

pub returns-clause-exactly : goal.returns-clause-exactly
unfolding most_places most_chain
returns-clause-exactly c = holds (book_whole _ _ _ _ c.if-places.false c.if-chains.false c.loop-k-test.false c.loop-k.invariant)
