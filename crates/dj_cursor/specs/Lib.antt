pub mod Steps
pub mod Options
pub mod Reading
pub mod Faults
pub mod Views
pub mod trusted
