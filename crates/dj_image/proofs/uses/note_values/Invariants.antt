use Rattle.std.proofs.Common.{List, take, ◌++◌}
use Rattle.std.specs.List.{filter_map}
use Rattle.dj_image.specs.Uses.{value_use, SameMembers, AreSeen}
use Rattle.dj_image.specs.declared.uses.Use.{Use}
use Rattle.dj_image.proofs.uses.note_values.Given as goal

-- what the fields so far begin with is listed
abbrev pub invariant-loop-value : goal.invariant-loop-value
invariant-loop-value l =
    AreSeen l.seen l.listed.items
    × ((all : List Use) → SameMembers l.fn.listed.items all → SameMembers l.listed.items (all ++ filter_map value_use (take l.value-index l.values)))
