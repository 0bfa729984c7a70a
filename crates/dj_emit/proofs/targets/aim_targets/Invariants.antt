use Rattle.std.proofs.Common.{◌≡◌, map, take}
use Rattle.dj_labels.specs.trusted.Labels.{address_of}
use Rattle.dj_emit.proofs.targets.aim_targets.Given as goal

abbrev pub invariant-loop-target : goal.invariant-loop-target
invariant-loop-target l = l.aimed ≡ map (address_of l.start) (take l.target-index l.targets)
