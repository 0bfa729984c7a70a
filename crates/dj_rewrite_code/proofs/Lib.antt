pub mod MapSizes
pub mod Rows
pub mod Sizes
pub mod Assembling
pub mod Known
