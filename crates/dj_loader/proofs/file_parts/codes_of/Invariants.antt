use Rattle.std.proofs.Common.{map, take}
use Rattle.dj_class.specs.Members.{member_of}
use Rattle.dj_program.specs.trusted.Programs.{AreSideBySide}
use Rattle.dj_loader.specs.Filed.{IsCodeFor}
use Rattle.dj_loader.proofs.file_parts.codes_of.Given as goal

-- those of the methods so far
abbrev pub invariant-loop-method : goal.invariant-loop-method
invariant-loop-method l = AreSideBySide (IsCodeFor l.pool) (map member_of (take l.method-index l.methods)) l.codes.items
