-- The laws of a service. The files named Code are what the proofs of the functions know.
pub mod BeforeLaws
pub mod Bounded
pub mod HeldLaws
pub mod LeftLaws
pub mod ServiceLaws
mod ServingCode
pub mod SpendLaws
pub mod TablesCode
