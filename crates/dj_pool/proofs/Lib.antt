pub mod Decides
pub mod Found
pub mod Loop
pub mod ConstantLaws
pub mod ConstantFaults
pub mod Slots
pub mod Links
pub mod PoolLaws
pub mod PoolAnswers
pub mod ChangeLaws
pub mod RedirectLaws
pub mod ShortTexts
pub mod Scanned
mod Facts
pub mod AnswerFacts
mod ViewFacts
mod PlaceFacts
mod ChangeFacts
