pub mod Leaving
pub mod Lists
pub mod Model
