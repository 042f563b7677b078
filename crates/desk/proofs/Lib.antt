-- Laws of the desk: AskLaws, AnswerLaws, DeskLaws, ThroughLaws and ProgramLaws say what the promises mean. The files named Code are what the proofs of the functions know.
mod AnswerCode
pub mod AnswerLaws
mod AnsweringCode
mod AskCode
pub mod AskLaws
pub mod DeskLaws
mod LastField
pub mod ProgramLaws
mod ThroughCode
pub mod ThroughLaws
