pub mod Figures
pub mod Model
pub mod Walk
