use Rattle.std.proofs.Common.{◌≡◌, ◌+◌, not, length}
use Rattle.std.specs.List.{prefix_len}
use Rattle.dj_asm_tokens.specs.trusted.Words.{is_blank}
use Rattle.dj_asm_tokens.proofs.piece.word_size.Given as goal

-- the rest decides
abbrev pub invariant-loop-rest : goal.invariant-loop-rest
invariant-loop-rest l = record {
  size : l.size + prefix_len (λ b. not (is_blank b)) l.rest ≡ prefix_len (λ b. not (is_blank b)) l.bytes;
  within : l.size + length l.rest ≡ length l.bytes;
}

abbrev pub decreases-loop-rest : goal.decreases-loop-rest
decreases-loop-rest l = length l.rest
