pub mod Simulation
pub mod Paying
pub mod Objects
pub mod Counting
pub mod Limits
pub mod Metering
pub mod Laws
pub mod Waiting
