pub mod TableRows
pub mod trusted
