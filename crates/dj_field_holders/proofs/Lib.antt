pub mod Holding
pub mod HolderFacts
