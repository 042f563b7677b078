-- The laws of the calls that change a book: Theorems says what their promises mean, BookedLaws what a booking and a release do to the book, read back
-- from the tables, ReleaseLaws which words a release changes, SessionLaws what a sequence of calls comes to. The files named Code are what the proofs
-- of the functions know.
pub mod BookedLaws
pub mod ChosenLaws
mod PlacingCode
pub mod ReleaseLaws
pub mod SessionLaws
pub mod Theorems
