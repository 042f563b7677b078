pub mod SoundProp
pub mod Model
pub mod Service
pub mod Tables
pub mod Held
