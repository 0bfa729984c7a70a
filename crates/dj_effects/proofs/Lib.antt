pub mod TopFacts
pub mod LocalFacts
pub mod MoveFacts
pub mod NumberFacts
pub mod SwitchFacts
pub mod ArrayFacts
pub mod LoadFacts
pub mod StoreFacts
pub mod MakeFacts
pub mod Frames
pub mod Beside
mod EffectFacts
mod HeapEffectFacts
