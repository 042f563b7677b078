-- `book_keeping::entering::enter_chain` meets its contract. The loop's invariant: the numbers so far are stored.
-- Assumes nothing.
use Rattle.book_keeping.proofs.EnterCode.{Stored}
use Rattle.book_keeping.proofs.entering.enter_chain.Given as goal

abbrev pub invariant-loop-i : goal.invariant-loop-i
invariant-loop-i l = Stored l.initial.booked l.k l.chain l.i l.booked
