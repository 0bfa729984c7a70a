use Rattle.std.proofs.Common.{◌≡◌, map, take}
use Rattle.dj_class_table.specs.ClassRows.{super_in}
use Rattle.dj_class_table.proofs.rows.supers_in.Given as goal

abbrev pub invariant-loop-row : goal.invariant-loop-row
invariant-loop-row l = l.supers.items ≡ map (super_in l.rows) (take l.row-index l.rows)
