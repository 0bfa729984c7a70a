use Rattle.std.proofs.Common.{◌≡◌, [], ◌∷◌, ◌++◌, map, take}
use Rattle.dj_labels.specs.trusted.Labels.{row_of}
use Rattle.dj_layout.proofs.rows.rows_of.Given as goal

abbrev pub invariant-loop-range : goal.invariant-loop-range
invariant-loop-range l = l.rows ≡ map (row_of (l.starts ++ l.size ∷ [])) (take l.range-index l.ranges)
