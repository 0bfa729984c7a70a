pub mod OperandFacts
pub mod EnterFacts
pub mod References
pub mod Found
pub mod Choices
pub mod Sites
pub mod Instances
pub mod Bodies
pub mod NativeFacts
pub mod Invocations
pub mod Calling
mod InvokingFacts
mod SiteFacts
pub mod SignatureFacts
pub mod CallForms
pub mod CallSites
