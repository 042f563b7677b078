-- Laws of the search. Theorems says that the model's answer is the one promised, that one answer at the most is, and what the promise means;
-- CaseTable holds the request's cases to it. Chains and BestLaws say that an allowed chain and the best are those of the network; FindCode and
-- RouteCode are what the proofs of the functions know. What those of the choice know stands in the crate `search_choice`.
pub mod BestLaws
pub mod CallTheorems
pub mod CaseTable
pub mod Chains
mod FindCode
pub mod RouteCode
pub mod Theorems
