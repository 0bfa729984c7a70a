use Rattle.std.proofs.Common.{take}
use Rattle.dj_labels.specs.Passes.{AreNumbers}
use Rattle.dj_labels.proofs.targets.number_targets.Given as goal

abbrev pub invariant-loop-target : goal.invariant-loop-target
invariant-loop-target l = AreNumbers l.table.starts.items (take l.target-index l.targets) l.numbers
