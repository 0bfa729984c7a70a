pub mod Names
pub mod Pools
pub mod Refusals
pub mod Renaming
pub mod Redirecting
pub mod Accounting
pub mod Laws
