pub mod MessageLaws
pub mod EndLaws
pub mod ThrowLaws
pub mod RaiseLaws
pub mod OwnLaws
pub mod StopLaws
pub mod WayLaws
pub mod FrugalLaws
pub mod NativeLaws
mod SettlingFacts
