pub mod Groups
pub mod Rewritten
pub mod Grouped
pub mod Laws
