-- The laws of a walk: Theorems says that the model's answer is the one promised, and that one answer at the most is; the
-- laws of why a chain is turned down stand in the crate `walk_cause`. The files named Code are what the proofs of the functions know.
pub mod LastCallCode
pub mod LastCallLaws
mod RoomCode
pub mod RoomLaws
pub mod Theorems
pub mod WalkCode
