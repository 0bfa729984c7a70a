use Rattle.std.proofs.Common.{List, take, ◌++◌}
use Rattle.std.specs.List.{filter_map}
use Rattle.dj_image.specs.Uses.{use_in, SameMembers, AreSeen}
use Rattle.dj_image.specs.declared.uses.Use.{Use}
use Rattle.dj_image.proofs.uses.note_code.Given as goal

-- what the instructions so far use is listed
abbrev pub invariant-loop-instr : goal.invariant-loop-instr
invariant-loop-instr l =
    AreSeen l.seen l.listed.items
    × ((all : List Use) → SameMembers l.fn.listed.items all → SameMembers l.listed.items (all ++ filter_map (use_in l.pool) (take l.instr-index l.instr-items)))
