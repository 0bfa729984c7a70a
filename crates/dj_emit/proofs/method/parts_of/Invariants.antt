use Rattle.std.proofs.Common.{◌≡◌, take}
use Rattle.dj_emit.specs.Parts.{groups_seen}
use Rattle.dj_emit.specs.Groups.{groups_at}
use Rattle.dj_emit.proofs.method.parts_of.Given as goal

abbrev pub invariant-loop-i : goal.invariant-loop-i
invariant-loop-i l = groups_seen l.parts.items ≡ take l.i (groups_at l.image l.method.number)
