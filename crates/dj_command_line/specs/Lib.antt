pub mod WordsApp
pub mod Views
pub mod trusted
