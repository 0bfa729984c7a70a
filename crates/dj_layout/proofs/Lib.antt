pub mod Ends
pub mod Standing
pub mod Once
pub mod Passing
pub mod Laying
pub mod Decided
mod Examples
