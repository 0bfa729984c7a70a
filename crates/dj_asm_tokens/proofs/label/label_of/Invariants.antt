use Rattle.std.proofs.Common.{◌≡◌, ◌≤◌, ◌-◌, drop, length}
use Rattle.dj_asm_tokens.specs.trusted.Words.{word_units}
use Rattle.dj_asm_tokens.specs.Colons.{ends_colon}
use Rattle.dj_asm_tokens.proofs.label.label_of.Given as goal

-- the rest says whether a colon ends the word
abbrev pub invariant-loop-at : goal.invariant-loop-at
invariant-loop-at l = record {
  within : l.at ≤ length l.bytes;
  ends : ends_colon (word_units 0 (drop l.at l.bytes)) ≡ ends_colon (word_units 0 l.bytes);
}

abbrev pub decreases-loop-at : goal.decreases-loop-at
decreases-loop-at l = length l.bytes - l.at
