pub mod Edges
pub mod Hierarchy
pub mod Judged
pub mod Known
pub mod Names
pub mod Views
pub mod trusted
