use Rattle.std.proofs.Common.{List, take, ◌++◌}
use Rattle.std.specs.List.{filter_map, AllByRecursion}
use Rattle.dj_names.specs.declared.descriptor.Ty.{Ty}
use Rattle.dj_image.specs.Uses.{used_type}
use Rattle.dj_image.specs.ArrayRows.{IsKeyed, AreRows, known_types}
use Rattle.dj_image.proofs.arrays.add_class.Given as goal

-- what the uses so far name has rows
abbrev pub invariant-loop-one : goal.invariant-loop-one
invariant-loop-one l =
    AllByRecursion IsKeyed l.rows.entries
    × ((wholes : List Ty) → AreRows wholes l.fn.rows → AreRows (wholes ++ known_types l.linker.program (filter_map (used_type l.parts.pool) (take l.one-index l.one-items))) l.rows)
