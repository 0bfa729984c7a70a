pub mod Lengths
pub mod Heaps
pub mod Views
pub mod Calls
