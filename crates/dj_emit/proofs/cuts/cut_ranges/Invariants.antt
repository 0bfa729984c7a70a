use Rattle.std.proofs.Common.{◌≡◌, take}
use Rattle.std.specs.List.{flat_map}
use Rattle.dj_groups.specs.Grouped.{protected_pieces}
use Rattle.dj_emit.specs.Parts.{groups_seen}
use Rattle.dj_emit.proofs.cuts.cut_ranges.Given as goal

abbrev pub invariant-loop-range : goal.invariant-loop-range
invariant-loop-range l = l.out ≡ flat_map (protected_pieces (groups_seen l.places.groups.items)) (take l.range-index l.ranges)
