use Rattle.std.proofs.Common.{◌≡◌, map, take}
use Rattle.dj_numbering.specs.Kept.{all_bases, whole_of_base}
use Rattle.dj_numbering.proofs.arrays.base_wholes.Given as goal

abbrev pub invariant-loop-base : goal.invariant-loop-base
invariant-loop-base l = l.wholes.items ≡ map whole_of_base (take l.base-index all_bases)
