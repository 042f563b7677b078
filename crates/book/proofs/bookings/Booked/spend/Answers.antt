-- `book::bookings::Booked::spend` meets its contract.
-- Assumes nothing.
use Rattle.book.proofs.SpendCode.{booking_lower, booking_taken}
use Rattle.book.proofs.bookings.Booked.spend.Goals as goal

pub returns-then-class-self : goal.returns-then-class-self
returns-then-class-self c = rw (← c.self.view_is) (booking_taken _ _ _ c.if-class-self.true _ c.spend_chain.ensures)

pub returns-else-class-self : goal.returns-else-class-self
returns-else-class-self c = rw (← c.self.view_is) (booking_lower _ _ _ c.if-class-self.false)
