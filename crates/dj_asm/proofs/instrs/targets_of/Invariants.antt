use Rattle.std.proofs.Common.{◌≡◌, pos, map, take}
use Rattle.dj_asm_source.specs.trusted.Lines.{Label}
use Rattle.dj_asm_source.specs.trusted.Labels.{label_number}
use Rattle.dj_asm_tokens.specs.Views.{units_of}
use Rattle.dj_asm.proofs.instrs.targets_of.Given as goal

abbrev pub invariant-loop-word : goal.invariant-loop-word
invariant-loop-word l = l.targets ≡ map (λ (label : Label). pos (label_number l.labels label)) (map units_of (take l.word-index l.words))
