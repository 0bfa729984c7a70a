pub mod Named
pub mod Foreign
pub mod Unlinked
pub mod Lines
