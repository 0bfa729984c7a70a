mod CodeFacts
mod BodyFacts
mod FileFacts
mod LargeFacts
pub mod OneFile
pub mod OneFault
pub mod Deciding
pub mod BodyLabels
pub mod BodyCode
pub mod SourceFile
pub mod Search
pub mod LargeDecided
pub mod FileOrFault
pub mod Counts
pub mod StackSizes
pub mod ValidFile
pub mod ProperCode
pub mod FrameCode
pub mod MethodCode
pub mod FileSteps
pub mod FileIndexes
pub mod FileCodes
pub mod FileLines
pub mod JudgedFirst
pub mod JudgedCode
pub mod JudgedLines
pub mod JudgedSections
pub mod JudgedProper
pub mod JudgedSizes
pub mod JudgedMethods
pub mod Judged
pub mod AssembleLaws
