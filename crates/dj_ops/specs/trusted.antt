pub mod Forms
pub mod Instructions
pub mod Lookups
