pub mod Lists
pub mod Reaching
pub mod Marks
pub mod Starts
pub mod Opened
pub mod Joined
pub mod Looked
pub mod Effort
pub mod Closing
pub mod Closed
pub mod Ends
pub mod StepLemmas
pub mod EdgeLists
pub mod Explored
pub mod Insides
mod GraphFacts
mod SearchFacts
