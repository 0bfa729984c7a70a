pub mod NumberLaws
pub mod RowLaws
pub mod SpanLaws
pub mod FirstLaws
pub mod GatherLaws
pub mod PlaceLaws
pub mod CallLaws
mod DirectoryFacts
mod SpanFacts
mod CallFacts
