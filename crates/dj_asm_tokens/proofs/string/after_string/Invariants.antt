use Rattle.std.proofs.Common.{◌≡◌, ◌≤◌, length}
use Rattle.std.specs.Prelude.{option_map}
use Rattle.dj_asm_tokens.specs.trusted.Words.{string_units}
use Rattle.dj_asm_tokens.proofs.string.after_string.Given as goal

-- the rest decides
abbrev pub invariant-loop-after : goal.invariant-loop-after
invariant-loop-after l = record {
  closed : option_map (λ x. x.1) (string_units 0 l.rest) ≡ option_map (λ x. x.1) (string_units 0 l.bytes);
  within : length l.rest ≤ length l.bytes;
}

abbrev pub decreases-loop-after : goal.decreases-loop-after
decreases-loop-after l = length l.rest
