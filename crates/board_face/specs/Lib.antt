pub mod Asked
pub mod Layout
pub mod WordKinds
pub mod WordLaws
