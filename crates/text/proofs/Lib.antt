-- Laws and theorems of plan text, the top ones in Theorems; of the calls in Calls and RoundTrip.
pub mod Calls
pub mod Capped
pub mod Cuts
pub mod Digits
pub mod Faults
pub mod Lines
pub mod Members
pub mod Reading
pub mod RoundTrip
pub mod RowFaults
pub mod Rows
pub mod Shapes
pub mod Short
pub mod Theorems
