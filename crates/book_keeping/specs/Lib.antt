pub mod History
pub mod Keeping
pub mod Model
