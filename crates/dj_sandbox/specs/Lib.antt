pub mod Runs
pub mod Loading
pub mod Laws
pub mod trusted
