use Rattle.std.proofs.Common.{◌≡◌, ℤ, map, take}
use Rattle.dj_labels.specs.trusted.Labels.{address_of}
use Rattle.dj_emit.proofs.targets.aim_pairs.Given as goal

abbrev pub invariant-loop-key : goal.invariant-loop-key
invariant-loop-key l = l.aimed ≡ map (λ (pair : ℤ × ℤ). (pair.0, address_of l.start pair.1)) (take l.key-index l.pairs)
