pub mod Wrapping
pub mod Sizes
pub mod Replacing
mod HeapFacts
pub mod Unsigned
mod ObjectFacts
