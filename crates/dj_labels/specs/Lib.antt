pub mod Labels
pub mod Faults
pub mod Laws
pub mod Passes
pub mod trusted
