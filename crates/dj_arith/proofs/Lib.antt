pub mod Wrapping
mod ArithmeticFacts
mod ArithmeticRows
