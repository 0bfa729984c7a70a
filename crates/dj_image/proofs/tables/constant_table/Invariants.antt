use Rattle.std.proofs.Common.{◌≡◌, ℕ, ◌+◌, List, length, map, take}
use Rattle.dj_image.specs.Gathered.{value_reported}
use Rattle.dj_image.specs.Indexed.{Holds, text_place}
use Rattle.dj_image.proofs.tables.constant_table.Given as goal

-- of the fields so far
abbrev pub invariant-loop-value : goal.invariant-loop-value
invariant-loop-value l =
    (texts : List (List ℕ)) → Holds (text_place texts l.pool) (length l.pool + 1) l.places → l.kept.items ≡ map (value_reported texts l.pool) (take l.value-index l.values)
