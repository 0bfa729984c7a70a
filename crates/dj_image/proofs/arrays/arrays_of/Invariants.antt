use Rattle.std.proofs.Common.{take, ◌++◌}
use Rattle.dj_image.specs.Uses.{used_types}
use Rattle.dj_image.specs.ArrayRows.{AreRows, known_types, first_wholes}
use Rattle.dj_image.proofs.arrays.arrays_of.Given as goal

-- what the classes so far use has rows
abbrev pub invariant-loop-class : goal.invariant-loop-class
invariant-loop-class l = AreRows (first_wholes ++ known_types l.linker.program (used_types (take l.class-index l.parts))) l.rows
