-- What an answer of the model says, for the crates above.
pub use Rattle.dj_image_step.specs.Answers.{Reported, On, Over, Nowhere, reported_of}
