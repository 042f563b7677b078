-- The laws of why a chain is turned down: CauseLaws says that the model's cause is the one promised, that one at the most is, and that an allowed
-- chain has none; TurnedLaws says in the request's words what 22 and 23 mean and where 18 to 23 are told. CauseCode is what the proofs of the functions know.
mod CauseCode
pub mod CauseLaws
pub mod TurnedLaws
