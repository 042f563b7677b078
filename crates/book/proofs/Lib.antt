-- The laws of a book. The files named Code are what the proofs of the functions know.
pub mod BookLaws
mod ChainCode
pub mod PlaceLaws
mod SpendCode
pub mod TakenLaws
pub mod UsesLaws
mod ValidCode
