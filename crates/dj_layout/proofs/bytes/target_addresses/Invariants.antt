use Rattle.std.proofs.Common.{◌≡◌, map, take}
use Rattle.dj_labels.specs.trusted.Labels.{address_of}
use Rattle.dj_layout.proofs.bytes.target_addresses.Given as goal

abbrev pub invariant-loop-number : goal.invariant-loop-number
invariant-loop-number l = l.targets ≡ map (address_of l.starts) (take l.number-index l.numbers)
