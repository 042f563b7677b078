-- The theory of the best chain; Theorems holds what the other crates cite.
pub mod AnyOrder
pub mod Chains
pub mod Chosen
pub mod Distinct
pub mod Fewest
pub mod Layers
pub mod Loops
pub mod Lowest
pub mod Relaxed
pub mod Theorems
pub mod Unique
pub mod Whens
