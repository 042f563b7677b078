pub mod Model
pub mod Placing
pub mod Session
