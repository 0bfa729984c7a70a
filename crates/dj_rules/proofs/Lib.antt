pub mod KeptLaws
pub mod FileLaws
pub mod MethodLaws
pub mod ShapeLaws
pub mod ClassLaws
mod Facts
