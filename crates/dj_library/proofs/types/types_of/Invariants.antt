use Rattle.std.proofs.Common.{◌≡◌, map, take}
use Rattle.dj_library.specs.TableRows.{type_in}
use Rattle.dj_library.proofs.types.types_of.Given as goal

abbrev pub invariant-loop-row : goal.invariant-loop-row
invariant-loop-row l = l.types ≡ map (type_in l.which) (take l.row-index l.rows)
