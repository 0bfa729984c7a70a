pub mod Answers
pub mod Machines
pub mod Running
