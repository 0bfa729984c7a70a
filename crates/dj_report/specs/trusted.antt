pub mod Order
pub mod Lines
pub mod Outcomes
pub mod Parts
pub mod Text
pub mod Stages
