-- `book::bookings::Booked::is_good` meets its contract.
-- Assumes nothing.
use Rattle.units.specs.Limits.{most_chain, most_class, most_consumption}
use Rattle.book.proofs.ValidCode.{booking_tells}
use Rattle.book.proofs.bookings.Booked.is_good.Goals as goal

pub returns : goal.returns
unfolding most_chain most_class most_consumption
returns c = rw (← c.self.view_is) (booking_tells _ _ _ c.are_named.ensures)
