use Rattle.std.proofs.Common.{◌≡◌, ◌∷◌, take}
use Rattle.std.specs.List.{filter}
use Rattle.dj_resolution.specs.Chained.{has_field}
use Rattle.dj_resolution.proofs.fields.row_of.Given as goal

-- those so far
abbrev pub invariant-loop-interface : goal.invariant-loop-interface
invariant-loop-interface l = l.row.items ≡ filter (has_field l.table) (l.class ∷ take l.interface-index l.above)
