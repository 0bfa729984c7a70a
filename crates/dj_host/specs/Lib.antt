pub mod Hosted
pub mod trusted
