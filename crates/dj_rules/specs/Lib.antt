pub mod Judged
pub mod Late
pub mod Reported
pub mod Kept
pub mod trusted
