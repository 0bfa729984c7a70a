pub mod Targets
pub mod Labels
