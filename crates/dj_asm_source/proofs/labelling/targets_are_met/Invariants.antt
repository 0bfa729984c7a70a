use Rattle.std.proofs.Common.{◌≡◌, map, drop}
use Rattle.std.specs.List.{list_all}
use Rattle.dj_asm_tokens.specs.Views.{units_of}
use Rattle.dj_asm_source.specs.trusted.Labels.{AtInstruction}
use Rattle.dj_asm_source.specs.LabelReading.{is_met}
use Rattle.dj_asm_source.proofs.labelling.targets_are_met.Given as goal

-- the targets that are left decide
abbrev pub invariant-loop-target : goal.invariant-loop-target
invariant-loop-target l = list_all (is_met l.table l.count) (map AtInstruction (map units_of (drop l.target-index l.targets))) ≡ list_all (is_met l.table l.count) (map AtInstruction (map units_of l.targets))
