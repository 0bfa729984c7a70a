pub mod Answers
pub mod Members
pub mod Rule
pub mod Sets
pub mod Steps
