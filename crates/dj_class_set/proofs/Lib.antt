pub mod RunRules
pub mod ByPath
pub mod Lending
pub mod Entries
pub mod Classical
pub mod InsertedLines
pub mod SomeLines
pub mod GoodFiles
pub mod LibraryDescriptors
pub mod NoDoubles
pub mod NoCycles
mod Alike
pub mod LateLaws
pub mod RawLaws
mod SomeSetLines
mod SomeLateLines
pub mod SomeRun
pub mod OneJudgement
pub mod SomeJudgement
pub mod RawJudgement
mod Facts
mod SetFacts
mod SilenceFacts
mod CycleFacts
mod CheckFacts
mod RawFacts
mod EntryFacts
mod LimitTextFacts
