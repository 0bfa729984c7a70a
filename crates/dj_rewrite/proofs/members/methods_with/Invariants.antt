use Rattle.std.proofs.Common.{◌≡◌, map, take}
use Rattle.dj_class.specs.Members.{member_of}
use Rattle.dj_rewrite.specs.Members.{methods_with}
use Rattle.dj_rewrite.proofs.members.methods_with.Given as goal

-- the methods so far
abbrev pub invariant-loop-i : goal.invariant-loop-i
invariant-loop-i l = l.made ≡ methods_with (map member_of (take l.i l.methods)) (take l.i l.answers) (take l.i l.descs)
