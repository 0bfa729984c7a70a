mod ClassTexts
mod PoolLinks
mod Resolving
mod KeptLaws
pub mod Numbers
pub mod Tags
pub mod NamedLaws
pub mod Judging
pub mod PassLaws
pub mod AboveLaws
pub mod FileLaws
mod RuleNumbers
mod RowFacts
mod LineFacts
pub mod NameNumbers
