pub mod StackMaps
pub mod Moves
pub mod Refusals
pub mod Reading
pub mod Answers
pub mod Laws
pub mod trusted
