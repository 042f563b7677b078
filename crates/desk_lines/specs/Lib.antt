pub mod Through
pub mod Turn
