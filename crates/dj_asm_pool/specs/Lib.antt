pub mod Room
pub mod Keys
pub mod Pooling
pub mod PoolNeeds
pub mod Walking
pub mod trusted
