use Rattle.std.proofs.Common.{◌≡◌, ◌++◌, take}
use Rattle.std.specs.List.{flat_map}
use Rattle.dj_ops.specs.trusted.Instructions.{target_bytes}
use Rattle.dj_ops.proofs.write_switches.put_targets.Given as goal

abbrev pub invariant-loop-target : goal.invariant-loop-target
invariant-loop-target l = l.out.items ≡ l.initial.out.items ++ flat_map (target_bytes l.at) (take l.target-index l.targets)
