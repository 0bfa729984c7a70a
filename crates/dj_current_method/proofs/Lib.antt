pub mod Numbers
pub mod Reported
pub mod InstructionFacts
pub mod Rooms
pub mod Standing
pub mod Calls
mod ActivationFacts
mod CodeFacts
