pub mod Few
pub mod Arguments
