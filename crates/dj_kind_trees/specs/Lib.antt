pub mod Nodes
pub mod Forests
