pub mod Cause
pub mod Model
