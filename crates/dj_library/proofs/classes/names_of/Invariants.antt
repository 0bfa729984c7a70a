use Rattle.std.proofs.Common.{◌≡◌, map, take}
use Rattle.dj_library.specs.TableRows.{name_in}
use Rattle.dj_library.proofs.classes.names_of.Given as goal

abbrev pub invariant-loop-row : goal.invariant-loop-row
invariant-loop-row l = l.names ≡ map (name_in l.which) (take l.row-index l.rows)
