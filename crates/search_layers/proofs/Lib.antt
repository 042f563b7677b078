-- A valid plan with a good ask is a network that obeys the laws (NetworkLaws), and the words hold its layers (RowLaws). The files named Code are
-- what the proofs of the functions know.
pub mod ArriveCode
mod CopyCode
pub mod FillCode
mod LayerCode
mod ListedCode
pub mod NetworkLaws
pub mod ReadCode
pub mod RowLaws
mod TriedCode
