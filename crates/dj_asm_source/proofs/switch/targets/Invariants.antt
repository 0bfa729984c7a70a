use Rattle.std.proofs.Common.{◌≡◌, ◌++◌, List, length}
use Rattle.dj_asm_source.specs.trusted.Lines.{Label}
use Rattle.dj_asm_source.specs.Reading.{read_map}
use Rattle.dj_asm_source.specs.LineReading.{targets}
use Rattle.dj_asm_tokens.specs.Views.{left_of}
use Rattle.dj_asm_source.proofs.switch.targets.Given as goal

-- what is left follows
abbrev pub invariant-loop-targets : goal.invariant-loop-targets
invariant-loop-targets l = read_map (λ (x : List Label × Label). (l.targets ++ x.0, x.1)) (targets (left_of l.at)) ≡ targets (left_of l.fn.at)

abbrev pub decreases-loop-targets : goal.decreases-loop-targets
decreases-loop-targets l = length (left_of l.at)
