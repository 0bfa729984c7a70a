use Rattle.std.proofs.Common.{◌≡◌, ◌++◌, length}
use Rattle.dj_names.specs.trusted.ModifiedUtf8.{units_text}
use Rattle.dj_asm_tokens.specs.trusted.Words.{word_units}
use Rattle.dj_asm_tokens.proofs.text.encoded.Given as goal

-- what is left follows
abbrev pub invariant-loop-unit : goal.invariant-loop-unit
invariant-loop-unit l = l.text ++ units_text (word_units 0 l.rest) ≡ units_text (word_units 0 l.bytes)

abbrev pub decreases-loop-unit : goal.decreases-loop-unit
decreases-loop-unit l = length l.rest
