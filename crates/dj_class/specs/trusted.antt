pub mod ClassFile
pub mod Names
pub mod Code
pub mod Access
