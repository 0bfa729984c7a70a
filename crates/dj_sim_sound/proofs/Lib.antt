pub mod Lists
pub mod Shapes
pub mod Befores
pub mod Fits
pub mod StackMaps
pub mod Inserted
pub mod Holds
pub mod Codes
pub mod Programs
mod Facts
