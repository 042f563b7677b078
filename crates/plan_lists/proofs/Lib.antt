-- Laws of the definitions of specs/, for the proofs of this crate and of the crates above it.
pub mod LinkCode
pub mod ListLaws
