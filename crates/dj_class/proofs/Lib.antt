pub mod Whole
pub mod PartLaws
pub mod ClassLaws
pub mod AnswerLaws
pub mod TextLaws
pub mod Facts
pub mod CodeLaws
mod CodeErrors
mod CodeFacts
mod LawFacts
pub mod AnswerFacts
mod CodeFieldFacts
