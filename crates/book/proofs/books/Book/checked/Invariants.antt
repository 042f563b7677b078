-- `book::books::Book::checked` meets its contract. The loop's invariant: each place so far is good.
-- Assumes nothing.
use Rattle.std.proofs.Common.{ℕ, ◌<◌}
use Rattle.book.specs.Tables.{GoodPlace}
use Rattle.book.proofs.books.Book.checked.Given as goal

abbrev pub invariant-loop-k : goal.invariant-loop-k
invariant-loop-k l = (j : ℕ) → j < l.k → GoodPlace l.contact_count l.places l.chains j
