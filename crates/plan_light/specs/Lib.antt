pub mod Listed
pub mod Model
