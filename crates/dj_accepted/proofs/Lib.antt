pub mod Chains
pub mod Linked
pub mod Methods
pub mod Base
pub mod Quiet
mod Facts
