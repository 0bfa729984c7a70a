use Rattle.std.proofs.Common.{◌≡◌, ◌++◌, map, take}
use Rattle.dj_numbering.specs.Kept.{whole_of_class}
use Rattle.dj_numbering.proofs.arrays.add_wholes.Given as goal

abbrev pub invariant-loop-class : goal.invariant-loop-class
invariant-loop-class l = l.wholes.items ≡ l.initial.wholes.items ++ map whole_of_class (take l.class l.table)
