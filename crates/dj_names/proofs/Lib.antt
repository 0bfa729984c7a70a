pub mod UnitLaws
pub mod NameLaws
pub mod TypeLaws
pub mod DescLaws
pub mod TestLaws
mod Facts
mod TextFacts
mod BaseFacts
