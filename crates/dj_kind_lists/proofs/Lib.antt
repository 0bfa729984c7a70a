pub mod Listing
pub mod Meeting
pub mod Ranging
