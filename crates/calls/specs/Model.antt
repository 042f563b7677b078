-- What the contracts of single steps speak of. A reader of the promises may skip it.
--     service_for      the plan of a checked call, as it serves its class with its book
-- Assumes nothing.
use Rattle.plan.specs.Lent.{plan_in}
use Rattle.service.specs.Service.{Service}
use Rattle.book.specs.Tables.{book_of}
use Rattle.calls.specs.Booked.{with_book}
use Rattle.calls.specs.declared.call.CheckedCall.{CheckedCall}

abbrev pub service_for : CheckedCall → Service
service_for call = with_book (plan_in call.plan.tables) (book_of call.book.places.now call.book.chains.now) call.class
