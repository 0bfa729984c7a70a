pub mod Others
pub mod Taking
pub mod HostFacts
