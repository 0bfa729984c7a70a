use Rattle.std.proofs.Common.{◌≡◌, length, bytes_eq}
use Rattle.dj_asm_tokens.specs.trusted.Words.{word_units}
use Rattle.dj_asm_tokens.proofs.spelling.spells.Given as goal

-- the rest decides
abbrev pub invariant-loop-left : goal.invariant-loop-left
invariant-loop-left l = bytes_eq l.left (word_units 0 l.rest) ≡ bytes_eq l.text (word_units 0 l.bytes)

abbrev pub decreases-loop-left : goal.decreases-loop-left
decreases-loop-left l = length l.left
