pub mod Lists
pub mod Cuts
pub mod Numbers
pub mod Once
pub mod Proper
pub mod Steps
pub mod Searched
pub mod RowLaws
pub mod TargetLaws
pub mod InstrLaws
pub mod Whole
pub mod Decided
mod Examples
