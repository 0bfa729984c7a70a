pub mod Links
pub mod Texts
pub mod Numbers
pub mod Rising
pub mod Reported
pub mod Wholes
pub mod Starts
pub mod Placed
pub mod First
pub mod Homes
pub mod Resolved
pub mod Sums
pub mod FieldSums
pub mod OwnLaws
mod Facts
mod CountFacts
mod KeptFacts
