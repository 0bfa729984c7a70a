pub mod Bytes
pub mod Steps
pub mod Options
pub mod Spans
pub mod Numbers
pub mod Signed
pub mod Parts
pub mod Loop
pub mod Faults
pub mod FaultLaws
mod Facts
mod FaultFacts
