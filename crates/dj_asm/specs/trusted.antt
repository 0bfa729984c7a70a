pub mod Codes
pub mod Files
pub mod Large
pub mod Texts
