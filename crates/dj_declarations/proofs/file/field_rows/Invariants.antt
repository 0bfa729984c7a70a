use Rattle.std.proofs.Common.{◌≡◌, map, take}
use Rattle.dj_class.specs.Members.{member_of}
use Rattle.dj_declarations.specs.MemberRows.{field_row_of, AreNamed}
use Rattle.dj_declarations.proofs.file.field_rows.Given as goal

-- the rows so far
abbrev pub invariant-loop-field : goal.invariant-loop-field
invariant-loop-field l = record {
  rows : l.rows.items ≡ map (field_row_of l.places) (map member_of (take l.field-index l.fields));
  named : AreNamed l.places (map member_of (take l.field-index l.fields));
}
