pub mod Single
pub mod Tried
