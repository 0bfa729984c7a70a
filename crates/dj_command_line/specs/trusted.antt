pub mod Words
pub mod DoneJobs
