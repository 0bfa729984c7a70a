use Rattle.std.proofs.Common.{◌≡◌, take}
use Rattle.dj_class_table.specs.ClassRows.{numbers_at}
use Rattle.dj_class_table.proofs.rows.numbers_at.Given as goal

-- the numbers so far
abbrev pub invariant-loop-place : goal.invariant-loop-place
invariant-loop-place l = l.listed ≡ numbers_at l.numbers (take l.place-index l.places)
