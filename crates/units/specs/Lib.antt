pub mod Asks
pub mod Limits
pub mod Model
pub mod Refusals
