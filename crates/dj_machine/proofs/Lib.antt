pub mod RunLaws
pub mod EngineLaws
mod RunFacts
