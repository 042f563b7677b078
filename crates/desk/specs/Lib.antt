pub mod Answering
pub mod Answers
pub mod AskModel
pub mod Asks
pub mod Desk
pub mod Program
pub mod Through
pub mod Writing
