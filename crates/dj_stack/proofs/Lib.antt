pub mod Bottom
mod CellFacts
pub mod Cells
mod FrameFacts
pub mod Halves
mod HeldFacts
mod PartFacts
pub mod PartLists
pub mod Puts
mod StackFacts
pub mod Stacks
