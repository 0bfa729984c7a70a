pub mod FlagLaws
pub mod Walks
pub mod PlaceLaws
pub mod Members
pub mod KnownLaws
pub mod StoreLaws
pub mod FieldLaws
pub mod InitialiserLaws
pub mod PrepareLaws
pub mod StartLaws
mod InitialisingFacts
