use Rattle.std.proofs.Common.{◌≡◌, ◌++◌, map, take}
use Rattle.dj_class_set.specs.Late.{row_class}
use Rattle.dj_class_set.proofs.late.add_rows.Given as goal

abbrev pub invariant-loop-row : goal.invariant-loop-row
invariant-loop-row l = l.declared.items ≡ l.initial.declared.items ++ map row_class (take l.row-index l.rows)
