-- `book::bookings::spend_chain` meets its contract. The loop's invariant: the bytes are taken from the words of the contacts so far, from each once.
-- Assumes nothing.
use Rattle.std.proofs.Common.{take}
use Rattle.book.specs.Model.{Spent, once}
use Rattle.book.proofs.bookings.spend_chain.Given as goal

abbrev pub invariant-loop-i : goal.invariant-loop-i
invariant-loop-i l = Spent (once (take l.i l.chain) l.amount) l.initial.lefts l.lefts
