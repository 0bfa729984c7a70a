pub mod Spelling
pub mod Options
