pub mod Views
pub mod Lines
pub mod Reads
pub mod trusted
