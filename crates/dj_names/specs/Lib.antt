pub mod ModifiedUtf8
pub mod DescReading
pub mod Tests
pub mod Values
pub mod Types
pub mod Heaps
pub mod Library
pub mod trusted
