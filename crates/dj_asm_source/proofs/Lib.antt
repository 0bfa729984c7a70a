mod LineFacts
mod FaultFacts
mod SourceFacts
mod OrderLaws
mod OrderSources
mod Beginnings
pub mod FaultLaws
mod ReadingFacts
mod ReaderLaws
mod Readers
mod Choices
mod WordLaws
mod TypeWords
mod Starts
mod FieldReaders
mod ListReaders
mod FrameReaders
mod FrameWords
mod Opcodes
mod ValueReaders
mod OperationReaders
mod Operations
mod TypeLists
mod SwitchLists
mod PairLists
mod Directives
mod LineOrder
mod LineReaders
mod ItemLaws
mod TextReading
pub mod TextLaws
pub mod OneSource
pub mod NumberLaws
mod BodyFacts
mod TextFacts
pub mod UnreadLaws
mod LabelLaws
pub mod LabelNumbers
pub mod Sections
pub mod LabelTextLaws
mod LabelFacts
mod LabelTables
pub mod Labellings
pub mod ReadingLaws
mod FirstFaultFacts
