pub mod Slots
pub mod Links
pub mod Lists
pub mod KeptLists
pub mod Handling
pub mod States
pub mod Standings
pub mod Works
pub mod Reported
pub mod Parts
pub mod Steps
pub mod Stepping
pub mod Joining
pub mod Unhandled
pub mod Forms
pub mod Judging
pub mod Entries
pub mod Makes
pub mod FrameLaws
pub mod Numbering
pub mod Places
pub mod Keeping
pub mod Linked
pub mod Facts
mod SignatureFacts
mod RuleFacts
