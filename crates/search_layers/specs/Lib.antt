pub mod Bridge
pub mod Held
pub mod Layered
pub mod WordProps
pub mod Words
