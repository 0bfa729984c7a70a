pub mod Allowed
pub mod Folders
pub mod Cutting
pub mod Loading
pub mod Reporting
pub mod Same
pub mod Leaving
pub mod SameRuns
pub mod SomeLimits
pub mod SomeReport
pub mod TextReports
mod Facts
mod LimitFacts
mod EngineFacts
mod ReportedFacts
