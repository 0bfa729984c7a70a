pub mod Tables
pub mod ClassRows
