-- The laws of a book that is kept. The files named Code are what the proofs of the functions know.
pub mod CallLaws
mod EnterCode
pub mod HistoryLaws
pub mod KeepLaws
pub mod PlaceStores
pub mod SamePlace
pub mod StandingLaws
mod Stores
