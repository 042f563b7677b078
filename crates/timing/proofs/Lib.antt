-- The laws of hops and chains. The files named Code are what the proofs of the functions know.
pub mod AllowedLaws
pub mod Barred
pub mod ChainCode
pub mod ChainLaws
pub mod Exclusion
pub mod HopLaws
pub mod Rounding
pub mod ServedLaws
pub mod Volume
