pub mod Flags
pub mod Places
pub mod Store
pub mod Waiting
pub mod Initialisers
pub mod Preparing
