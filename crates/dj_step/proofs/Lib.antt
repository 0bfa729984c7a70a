pub mod BytesLaws
pub mod InputLaws
pub mod StartLaws
pub mod FirstLaws
pub mod BeginLaws
pub mod StepLaws
mod MachineFacts
