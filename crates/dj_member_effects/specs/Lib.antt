pub mod Numbering
pub mod Fields
pub mod Objects
pub mod Statics
pub mod Literals
