pub mod DescTests
pub mod TextLaws
pub mod RowLaws
pub mod LookupLaws
pub mod FileLaws
pub mod LibraryLaws
pub mod ListLaws
pub mod CountLaws
mod Facts
pub mod BareLaws
