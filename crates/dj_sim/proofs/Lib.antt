pub mod Places
pub mod Acts
pub mod Effects
pub mod Steps
pub mod Ready
pub mod Initialising
pub mod Unwinding
pub mod PaidCalls
pub mod Payments
pub mod Related
pub mod CountedSteps
pub mod Limited
pub mod Back
pub mod SoundTurns
pub mod BelowObject
pub mod Beginning
pub mod Waiting
pub mod LawProofs
pub mod Metering
mod Facts
mod ImageFacts
mod MeteringFacts
