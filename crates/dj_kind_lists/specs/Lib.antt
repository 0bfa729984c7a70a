pub mod Blocks
pub mod Ranges
pub mod Lists
