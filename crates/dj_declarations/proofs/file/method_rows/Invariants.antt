use Rattle.std.proofs.Common.{◌≡◌, map, take}
use Rattle.dj_class.specs.Members.{member_of}
use Rattle.dj_declarations.specs.MemberRows.{method_row_of, AreNamed}
use Rattle.dj_declarations.proofs.file.method_rows.Given as goal

-- the rows so far
abbrev pub invariant-loop-method : goal.invariant-loop-method
invariant-loop-method l = record {
  rows : l.rows.items ≡ map (method_row_of l.places) (map member_of (take l.method-index l.methods));
  named : AreNamed l.places (map member_of (take l.method-index l.methods));
}
