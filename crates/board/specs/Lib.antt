pub mod Booked
pub mod Faces
