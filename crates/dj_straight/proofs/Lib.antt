pub mod StraightInstrs
pub mod Cuts
pub mod ArrayLaws
pub mod StraightRuns
pub mod Linked
pub mod Shaping
pub mod StraightCode
pub mod StraightNames
pub mod PushedNulls
pub mod Straights
pub mod Turns
pub mod Sound
pub mod Shapes
pub mod Programs
pub mod Runs
mod SmallRuns
mod Opcodes
mod Facts
mod FrameFacts
mod ShapeFacts
mod RunFacts
mod StraightFacts
pub mod Unread
