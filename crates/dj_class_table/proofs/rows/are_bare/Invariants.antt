use Rattle.std.proofs.Common.{◌≡◌, map, take}
use Rattle.dj_declarations.specs.Files.{bare_class}
use Rattle.dj_class_table.proofs.rows.are_bare.Given as goal

abbrev pub invariant-loop-row : goal.invariant-loop-row
invariant-loop-row l = map bare_class (take l.row-index l.rows) ≡ take l.row-index l.rows
