use Rattle.std.proofs.Common.{◌≡◌, ◌++◌, None, length}
use Rattle.dj_asm_source.specs.Reading.{read_map}
use Rattle.dj_asm_source.specs.LineReading.{LabelPairs, pairs_after}
use Rattle.dj_asm_tokens.specs.Views.{left_of}
use Rattle.dj_asm_source.proofs.switch.pairs.Given as goal

-- what is left follows
abbrev pub invariant-loop-pairs : goal.invariant-loop-pairs
invariant-loop-pairs l = read_map (λ (x : LabelPairs). (l.pairs ++ x.0, x.1)) (pairs_after None (left_of l.at)) ≡ pairs_after None (left_of l.fn.at)

abbrev pub decreases-loop-pairs : goal.decreases-loop-pairs
decreases-loop-pairs l = length (left_of l.at)
