pub mod Growth
pub mod Pairs
pub mod Sorting
pub mod Listings
pub mod Lists
mod Facts
mod WalkFacts
mod CallFacts
mod Lookup
mod Taken
mod Walking
mod Once
mod Refusing
mod Reading
