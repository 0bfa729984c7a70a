pub mod Jobs
pub mod Report
pub mod Ends
pub mod Engine
