pub mod Loads
pub mod Numbered
pub mod Parting
pub mod Filed
