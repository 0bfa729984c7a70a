pub mod News
pub mod Laws
