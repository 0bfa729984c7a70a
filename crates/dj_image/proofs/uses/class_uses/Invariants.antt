use Rattle.std.proofs.Common.{take}
use Rattle.std.specs.List.{flat_map}
use Rattle.dj_image.specs.Uses.{code_uses, SameMembers, AreSeen}
use Rattle.dj_image.proofs.uses.class_uses.Given as goal

-- what the code so far uses is listed
abbrev pub invariant-loop-code : goal.invariant-loop-code
invariant-loop-code l =
    AreSeen l.seen.items l.listed.items
    × SameMembers l.listed.items (flat_map (code_uses l.parts.pool) (take l.code-index l.parts.codes.items))
