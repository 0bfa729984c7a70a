pub mod Bits
pub mod Chained
pub mod Climbs
pub mod Finding
pub mod Knowing
pub mod Levels
pub mod Listed
pub mod Lists
pub mod Marking
pub mod Marks
pub mod Nearing
pub mod Ranking
pub mod Resolution
pub mod Searches
pub mod Selections
pub mod Specials
pub mod Subclasses
pub mod Walks
pub mod Numbered
pub mod Unnumbered
pub mod Calling
pub mod Tops
pub mod Covering
mod LinkedFacts
mod RankedFacts
mod ListedFacts
mod SharedFacts
