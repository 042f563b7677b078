-- `book::books::Book::spend` meets its contract. The loop's invariant: what the places so far take is taken.
-- Assumes nothing.
use Rattle.book.specs.Book.{used}
use Rattle.book.specs.Model.{Spent}
use Rattle.book.specs.Tables.{bookings_from}
use Rattle.book.proofs.books.Book.spend.Given as goal

abbrev pub invariant-loop-k : goal.invariant-loop-k
invariant-loop-k l = Spent (used (bookings_from l.self.places.now l.self.chains.now 0 l.k) l.class) l.initial.lefts l.lefts
