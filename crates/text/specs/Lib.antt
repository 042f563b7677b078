pub mod Calls
pub mod Digits
pub mod Lines
pub mod Model
pub mod Reading
pub mod Rows
