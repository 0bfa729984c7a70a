use Rattle.std.proofs.Common.{take}
use Rattle.dj_declarations.specs.Lists.{AreListed}
use Rattle.dj_declarations.proofs.listed.copied_names.Given as goal

-- the names so far
abbrev pub invariant-loop-name : goal.invariant-loop-name
invariant-loop-name l = AreListed l.copies l.places.items (take l.name-index l.names)
