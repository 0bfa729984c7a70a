use Rattle.std.proofs.Common.{◌≡◌, ◌+◌, ◌≤◌, length}
use Rattle.std.specs.Str.Lines.{lines}
use Rattle.dj_asm_tokens.proofs.line.lines_after.Given as goal

-- those of the rest follow
abbrev pub invariant-loop-after : goal.invariant-loop-after
invariant-loop-after l = record {
  count : l.number + length (lines l.rest) ≡ length (lines l.text) + l.first;
  within : l.number + length l.rest ≤ length l.text + l.first;
}

abbrev pub decreases-loop-after : goal.decreases-loop-after
decreases-loop-after l = length l.rest
