pub mod Words
pub mod Mnemonics
