pub mod Limits
pub mod Entry
pub mod Statuses
pub mod Checked
pub mod RawRules
pub mod Judging
