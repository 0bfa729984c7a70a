pub mod Lists
pub mod Sides
pub mod Named
pub mod Upward
pub mod Moved
pub mod Filled
pub mod Components
pub mod Reported
pub mod Sourced
pub mod FieldValues
pub mod Coded
pub mod Files
pub mod BareFacts
pub mod Owned
pub mod Strings
mod Facts
pub mod NumberedFacts
pub mod RefusalFacts
pub mod FiledFacts
pub mod LibraryFacts
pub mod PartingFacts
mod FilledFacts
pub mod TableErrors
