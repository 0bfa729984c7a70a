-- What dj_member_index says, for the crates above.
pub use Rattle.dj_member_index.specs.Numberings.{Numbering, number_of}
pub use Rattle.dj_member_index.specs.declared.calls.CallTable.{CallTable}
pub use Rattle.dj_member_index.specs.Calls.{IsCallTable, IsFirstLike}
