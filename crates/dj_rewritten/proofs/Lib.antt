pub mod CodeLaws
pub mod Naming
pub mod Kept
pub mod Codes
mod RowFacts
pub mod Valid
pub mod Frames
pub mod Bodies
pub mod Fields
pub mod Heads
pub mod Indexes
pub mod Methods
pub mod Classes
pub mod ReadBack
pub mod Programs
pub mod Sound
pub mod Once
mod SizeFacts
mod FileFacts
