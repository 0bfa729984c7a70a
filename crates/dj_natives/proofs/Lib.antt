pub mod Charges
pub mod SeenFacts
pub mod Groups
pub mod Others
pub mod ArgumentKinds
pub mod Counted
pub mod HeapLaws
pub mod Performed
pub mod Units
pub mod Moves
pub mod Takings
pub mod CopyPlaces
pub mod Copied
pub mod Reported
pub mod NameUnits
pub mod NameFacts
pub mod CountingFacts
pub mod Catching
pub mod BooleanArrays
pub mod CopyAnswers
mod NumberedFacts
mod KnownFacts
