pub mod Judged
pub mod Constants
pub mod Known
pub mod Marks
pub mod trusted
