pub mod Forms
pub mod Instructions
pub mod Refusals
pub mod Reading
pub mod Laws
pub mod Mnemonics
pub mod Lookups
pub mod trusted
