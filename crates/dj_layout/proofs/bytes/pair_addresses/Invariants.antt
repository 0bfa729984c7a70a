use Rattle.std.proofs.Common.{◌≡◌, map, take}
use Rattle.dj_labels.specs.trusted.Labels.{address_of}
use Rattle.dj_layout.proofs.bytes.pair_addresses.Given as goal

abbrev pub invariant-loop-pair : goal.invariant-loop-pair
invariant-loop-pair l = l.pairs.items ≡ map (λ pair. (pair.0, address_of l.starts pair.1)) (take l.pair-index l.numbers)
