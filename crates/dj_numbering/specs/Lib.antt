pub mod Links
pub mod Typed
pub mod Members
pub mod Shapes
pub mod Numbered
pub mod Kept
pub mod Named
pub mod Own
