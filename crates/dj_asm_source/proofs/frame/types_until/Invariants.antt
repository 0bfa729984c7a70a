use Rattle.std.proofs.Common.{◌≡◌, ◌++◌, length}
use Rattle.dj_asm_source.specs.Reading.{read_map}
use Rattle.dj_asm_source.specs.LineReading.{types_until}
use Rattle.dj_asm_tokens.specs.Views.{left_of}
use Rattle.dj_asm_source.specs.StartViews.{ends_types}
use Rattle.dj_asm_source.proofs.frame.types_until.Given as goal

-- what is left follows
abbrev pub invariant-loop-rest : goal.invariant-loop-rest
invariant-loop-rest l =
    read_map (λ more. l.types ++ more) (types_until (ends_types l.end) (left_of l.at)) ≡ types_until (ends_types l.end) (left_of l.fn.at)

abbrev pub decreases-loop-rest : goal.decreases-loop-rest
decreases-loop-rest l = length (left_of l.at)
