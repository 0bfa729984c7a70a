use Rattle.std.proofs.Common.{take}
use Rattle.dj_labels.specs.Passes.{ArePairs}
use Rattle.dj_labels.proofs.targets.number_pairs.Given as goal

abbrev pub invariant-loop-key : goal.invariant-loop-key
invariant-loop-key l = ArePairs l.table.starts.items (take l.key-index l.pairs) l.numbered
