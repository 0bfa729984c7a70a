mod RenameFacts
mod GroupFacts
mod RowFacts
mod FileFacts
mod MethodFacts
pub mod StepFacts
