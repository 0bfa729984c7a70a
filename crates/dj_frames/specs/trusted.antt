pub mod StackMaps
pub mod Written
