use Rattle.std.proofs.Common.{◌≡◌, map, drop}
use Rattle.std.specs.List.{list_all}
use Rattle.dj_asm_tokens.specs.Views.{units_of}
use Rattle.dj_asm_source.specs.trusted.Labels.{label_number}
use Rattle.dj_asm.specs.Judging.{reaches}
use Rattle.dj_asm.proofs.reach.targets_reached.Given as goal

-- the targets that are left decide
abbrev pub invariant-loop-target : goal.invariant-loop-target
invariant-loop-target l =
    list_all (reaches (label_number l.labels) l.starts 2147483648 l.at) (map units_of (drop l.target-index l.targets))
    ≡ list_all (reaches (label_number l.labels) l.starts 2147483648 l.at) (map units_of l.targets)
