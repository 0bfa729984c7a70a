pub mod Acts
pub mod Bytes
pub mod Texts
pub mod Laws
