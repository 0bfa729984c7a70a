pub mod Growing
pub mod Halves
pub mod Flowing
pub mod Making
pub mod Wrapping
