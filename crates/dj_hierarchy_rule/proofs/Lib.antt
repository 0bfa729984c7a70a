pub mod Alike
pub mod Anys
pub mod Climbing
pub mod Edging
mod Facts
pub mod Judging
mod LibraryFacts
pub mod Naming
mod FlagFacts
