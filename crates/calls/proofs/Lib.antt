-- The laws of the calls over a plan with its book: BookingLaws says that a promise has one result, CallTheorems where `route_booked` refuses.
-- The files named Code are what the proofs of the functions know.
pub mod BookingLaws
pub mod CallCode
pub mod CallTheorems
mod CheckCode
