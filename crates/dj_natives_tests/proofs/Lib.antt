pub mod SmallPrograms
pub mod Places
pub mod KindsTaken
pub mod KnownObjects
pub mod Rooms
pub mod StaticCounts
