pub mod Items
pub mod Lines
pub mod Sources
pub mod Faults
pub mod Labels
