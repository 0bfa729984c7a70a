mod WordsFacts
pub mod ByClap
pub mod Refusals
pub mod Forms
pub mod Rules
pub mod AfterWalk
pub mod WordWalks
pub mod RowLemmas
pub mod NoJobs
pub mod OptionLaws
pub mod Holding
pub mod Walking
pub mod Decimal
pub mod Done
mod EntryFacts
