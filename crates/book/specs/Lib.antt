pub mod Book
pub mod Model
pub mod OneProof
pub mod Tables
