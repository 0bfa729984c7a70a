use Rattle.std.proofs.Common.{◌≡◌, ◌++◌, take}
use Rattle.std.specs.List.{flat_map}
use Rattle.dj_ops.specs.trusted.Instructions.{pair_bytes}
use Rattle.dj_ops.proofs.write_switches.put_pairs.Given as goal

abbrev pub invariant-loop-pair : goal.invariant-loop-pair
invariant-loop-pair l = l.out.items ≡ l.initial.out.items ++ flat_map (pair_bytes l.at) (take l.pair-index l.pairs)
