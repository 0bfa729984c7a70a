-- Names of dj_resolution's proofs, for the crates above.
pub use Rattle.dj_resolution.proofs.Resolution.{DoNamesDiffer}
