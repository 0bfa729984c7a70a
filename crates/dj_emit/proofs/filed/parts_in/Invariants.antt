use Rattle.std.proofs.Common.{◌≡◌, take}
use Rattle.dj_emit.specs.Parts.{groups_seen}
use Rattle.dj_emit.specs.Filed.{groups_in}
use Rattle.dj_image.specs.Imaged.{program_of}
use Rattle.dj_emit.proofs.filed.parts_in.Given as goal

abbrev pub invariant-loop-i : goal.invariant-loop-i
invariant-loop-i l = groups_seen l.parts.items ≡ take l.i (groups_in (program_of l.image) l.pool l.labelled)
