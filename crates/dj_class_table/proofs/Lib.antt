pub mod Orders
pub mod Rising
pub mod Shared
pub mod Numbered
pub mod Joins
pub mod Listed
pub mod Lacking
mod TableFacts
