pub mod Model
pub mod Route
