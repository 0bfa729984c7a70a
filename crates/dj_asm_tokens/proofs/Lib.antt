mod WordFacts
mod UnitLaws
mod LineLaws
mod TableLaws
mod BareTexts
mod QuotedLaws
pub mod TokenLaws
mod DigitLaws
mod LabelWords
