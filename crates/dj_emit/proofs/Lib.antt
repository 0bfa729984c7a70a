pub mod Orders
pub mod Steps
pub mod NextFacts
pub mod Families
pub mod ArrivalFacts
pub mod TargetFacts
pub mod SpellingFacts
pub mod CutFacts
pub mod PartFacts
pub mod MethodFacts
pub mod WholeFacts
mod RowFacts
mod TableFacts
pub mod FiledFacts
pub mod RowCounts
