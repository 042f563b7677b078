pub mod Chain
pub mod Hop
pub mod Model
