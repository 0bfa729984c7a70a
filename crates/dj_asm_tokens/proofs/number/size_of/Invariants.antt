use Rattle.std.proofs.Common.{◌≡◌, false, length}
use Rattle.dj_asm_tokens.specs.trusted.Words.{word_units}
use Rattle.dj_asm_tokens.specs.Numbers.{digits_from}
use Rattle.dj_asm_tokens.proofs.number.size_of.Given as goal

-- the rest decides
abbrev pub invariant-loop-unit : goal.invariant-loop-unit
invariant-loop-unit l = digits_from l.some l.size (word_units 0 l.rest) ≡ digits_from false 0 (word_units 0 l.bytes)

abbrev pub decreases-loop-unit : goal.decreases-loop-unit
decreases-loop-unit l = length l.rest
