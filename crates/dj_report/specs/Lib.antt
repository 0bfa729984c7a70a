pub mod OrderLaws
pub mod Lines
pub mod Stages
pub mod trusted
