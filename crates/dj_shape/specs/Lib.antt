pub mod Rules
pub mod Reported
