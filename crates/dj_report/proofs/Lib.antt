pub mod InOrder
pub mod Sorted
pub mod Stages
pub mod Adding
pub mod Inserted
mod Facts
mod TextFacts
