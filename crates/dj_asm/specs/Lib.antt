pub mod Laws
pub mod Answers
pub mod Assembling
pub mod CodeBodies
pub mod Filing
pub mod Judging
pub mod trusted
