pub mod LowHalves
pub mod HolderFacts
pub mod PutFacts
pub mod FieldFacts
pub mod ObjectFacts
pub mod StaticFacts
pub mod FieldLaws
pub mod ObjectLaws
pub mod LiteralFacts
pub mod LiteralLaws
mod MemberFacts
