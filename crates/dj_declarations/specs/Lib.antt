pub mod Files
pub mod Members
pub mod Texts
pub mod MemberRows
pub mod Tables
pub mod Lists
pub mod Named
pub mod trusted
