pub mod Members
mod EntryFacts
pub mod EntryLaws
pub mod KeyLaws
mod NeedFacts
pub mod NeedSteps
pub mod PoolChains
pub mod PoolEntries
mod PoolFacts
pub mod PoolOnce
pub mod PoolRoom
pub mod PoolSteps
pub mod PoolingLaws
pub mod TextNumbers
pub mod FoundEntries
pub mod TokenUnits
pub mod RightEntries
pub mod SourcePool
pub mod NamedEntries
pub mod Walking
