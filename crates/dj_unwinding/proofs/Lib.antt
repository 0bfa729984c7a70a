pub mod Outcomes
pub mod Tops
pub mod Numbering
pub mod Catching
pub mod Frames
pub mod Callers
pub mod ShortLaws
mod UnwindingFacts
mod RowFacts
