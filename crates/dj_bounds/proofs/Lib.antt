pub mod Marks
pub mod Spending
pub mod Acting
pub mod Taking
pub mod Levels
pub mod Rooms
pub mod MeteredBounds
pub mod PlainBounds
pub mod Idle
pub mod Files
pub mod Literals
mod Facts
