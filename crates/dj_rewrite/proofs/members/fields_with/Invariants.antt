use Rattle.std.proofs.Common.{◌≡◌, map, take}
use Rattle.dj_class.specs.Members.{member_of}
use Rattle.dj_rewrite.specs.Members.{fields_with}
use Rattle.dj_rewrite.proofs.members.fields_with.Given as goal

-- the fields so far
abbrev pub invariant-loop-i : goal.invariant-loop-i
invariant-loop-i l = l.made ≡ fields_with l.pool (map member_of (take l.i l.fields)) (take l.i l.descs)
