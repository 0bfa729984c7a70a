use Rattle.std.proofs.Common.{◌≡◌, ◌++◌, map, take}
use Rattle.dj_class.specs.Members.{member_of}
use Rattle.dj_rewrite.specs.Answers.{desc_of}
use Rattle.dj_rewrite.proofs.indexes.add_indexes.Given as goal

-- the indexes of the members so far
abbrev pub invariant-loop-member : goal.invariant-loop-member
invariant-loop-member l = l.indexes.items ≡ l.initial.indexes.items ++ map desc_of (map member_of (take l.member-index l.members))
