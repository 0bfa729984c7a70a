-- What dj_resolution and dj_member_index say, for the crates above.
pub use Rattle.dj_resolution.specs.Linked.{Linked, class_name}
pub use Rattle.dj_resolution.specs.Directories.{Numbering, number_of}
