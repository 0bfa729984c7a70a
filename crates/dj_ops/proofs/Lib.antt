pub mod Rising
pub mod Lookups
pub mod Parts
pub mod FormFacts
pub mod Families
pub mod SwitchLaws
pub mod Taken
pub mod Again
pub mod Causes
pub mod SwitchCauses
pub mod Refused
pub mod Whole
pub mod Sizes
pub mod Decided
mod Opcodes
mod Examples
mod LookupFacts
mod FamilyFacts
mod ProperFacts
mod RefusalFacts
