use Rattle.std.proofs.Common.{◌≡◌, map, take}
use Rattle.dj_class_table.specs.Tables.{class_number}
use Rattle.dj_class_table.proofs.rows.numbers_of.Given as goal

-- the numbers so far
abbrev pub invariant-loop-name : goal.invariant-loop-name
invariant-loop-name l = l.numbers.items ≡ map (class_number l.rows) (take l.name-index l.names)
