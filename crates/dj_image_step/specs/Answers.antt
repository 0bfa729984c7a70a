-- What an answer of the model says, for the crates above.
pub use Rattle.dj_settling.specs.Reported.{Reported, On, Over, Nowhere, reported_of}
