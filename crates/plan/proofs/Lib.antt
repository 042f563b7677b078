-- Laws of the definitions of specs/, for the proofs of this crate and of the crates above it.
pub mod Before
pub mod EachRow
pub mod Lent
pub mod LightLaws
pub mod Loops
pub mod Moments
pub mod Ranging
pub mod RowList
pub mod Sharing
pub mod Tests
pub mod Verdicts
