mod SmallRuns
pub mod MappedNames
pub mod MappedHeaps
pub mod MappedMembers
pub mod MappedEffects
pub mod Flows
pub mod MappedSteps
pub mod MappedRuns
pub mod NameMaps
pub mod LawProofs
pub mod Shapes
pub mod OneEnd
pub mod Paying
pub mod Frames
pub mod Once
mod OpcodeFacts
mod ValueFacts
mod KindFacts
mod RunFacts
mod CallFacts
mod ChargeFacts
mod InitialisationFacts
mod NativeFacts
mod NativeRuns
mod NativeArguments
mod LibraryRows
mod LinkFacts
mod LimitFacts
mod SelectionFacts
mod ShapeFacts
pub mod Growth
pub mod Fits
pub mod EffectFits
pub mod StepFits
pub mod Standing
pub mod SoundValues
pub mod SoundEffects
mod HeapFacts
mod NamingFacts
mod SoundFacts
pub mod SoundLinks
pub mod SoundNatives
pub mod SoundCalls
pub mod SoundSteps
pub mod SoundFrames
pub mod SoundRuns
pub mod QuietLibraries
pub mod SoundPrograms
mod SoundProgramFacts
mod SoundFiles
mod AskFacts
mod TypeFacts
