pub mod Booked
pub mod Calls
pub mod Checks
pub mod Model
