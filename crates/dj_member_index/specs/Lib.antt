pub mod Numberings
pub mod DirectoryRows
pub mod Calls
pub mod Spans
