pub mod Runs
pub mod Engines
pub mod trusted
