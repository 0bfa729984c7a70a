pub mod Choosing
pub mod Entering
pub mod Invoking
pub mod Natives
pub mod Operands
pub mod Receivers
pub mod Sites
