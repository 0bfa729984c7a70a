pub mod Bare
pub mod Once
pub mod CodeLaws
mod Facts
pub mod CodeFacts
