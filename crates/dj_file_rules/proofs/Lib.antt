pub mod FileLines
pub mod Naming
pub mod Faulty
mod Facts
mod Pairs
mod PairTexts
mod VersionFacts
