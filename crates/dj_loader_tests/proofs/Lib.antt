mod Within
mod Nth
mod Operands
mod Codes
mod Libraries
mod Few
mod Sound
mod Asked
