pub mod Best
pub mod Model
pub mod Network
