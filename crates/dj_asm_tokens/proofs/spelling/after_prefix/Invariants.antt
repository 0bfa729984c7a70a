use Rattle.std.proofs.Common.{◌≡◌, length, take, drop, bytes_eq}
use Rattle.dj_asm_tokens.specs.trusted.Words.{word_units}
use Rattle.dj_asm_tokens.proofs.spelling.after_prefix.Given as goal

-- the rest decides
abbrev pub invariant-loop-left : goal.invariant-loop-left
invariant-loop-left l = record {
  same : bytes_eq (take (length l.left) (word_units 0 l.rest)) l.left ≡ bytes_eq (take (length l.text) (word_units 0 l.bytes)) l.text;
  after : drop (length l.left) (word_units 0 l.rest) ≡ drop (length l.text) (word_units 0 l.bytes);
}

abbrev pub decreases-loop-left : goal.decreases-loop-left
decreases-loop-left l = length l.left
