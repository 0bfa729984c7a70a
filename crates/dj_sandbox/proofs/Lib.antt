pub mod GivenEffects
pub mod GivenSteps
pub mod TakenAnswers
pub mod UnstoppedEffects
pub mod Unstopped
pub mod SomePrograms
pub mod RawRuns
pub mod LoadingLaws
pub mod GivenNothing
pub mod EntryLaws
pub mod RunLaws
pub mod OneRun
mod Facts
