use Rattle.std.proofs.Common.{◌≡◌, ◌+◌, ◌==◌, length}
use Rattle.std.specs.List.{position_or_len}
use Rattle.dj_asm_tokens.proofs.line.line_size.Given as goal

-- the rest decides
abbrev pub invariant-loop-rest : goal.invariant-loop-rest
invariant-loop-rest l = record {
  size : l.size + position_or_len (λ b. b == 10) l.rest ≡ position_or_len (λ b. b == 10) l.text;
  within : l.size + length l.rest ≡ length l.text;
}

abbrev pub decreases-loop-rest : goal.decreases-loop-rest
decreases-loop-rest l = length l.rest
