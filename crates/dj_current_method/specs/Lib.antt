pub mod Activations
pub mod Instructions
pub mod Reported
