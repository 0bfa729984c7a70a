pub mod Reported
pub mod Settling
pub mod Frugal
