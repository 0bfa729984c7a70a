pub mod NamedBodies
pub mod Codes
pub mod Anys
pub mod Stands
pub mod MarkLaws
pub mod Judging
pub mod FloatLetters
pub mod PlainLaws
pub mod MethodLaws
pub mod MapLaws
pub mod FileLaws
pub mod Marked
pub mod Keys
pub mod DoubleLaws
pub mod Noted
pub mod PrintLaws
pub mod OwnTexts
pub mod MarkedNames
pub mod HeadLaws
pub mod RepeatLaws
pub mod HierarchyLaws
mod Facts
mod BodyFacts
mod NameFacts
mod RuleFacts
mod HeadFacts
mod PackageFacts
mod FlagFacts
mod InstrFacts
