use Rattle.std.proofs.Common.{◌≡◌, map, take}
use Rattle.dj_class.specs.Members.{member_of}
use Rattle.dj_loader.specs.Filed.{desc_index}
use Rattle.dj_loader.proofs.file_parts.descs_of.Given as goal

-- those of the methods so far
abbrev pub invariant-loop-method : goal.invariant-loop-method
invariant-loop-method l = l.descs.items ≡ map desc_index (map member_of (take l.method-index l.methods))
