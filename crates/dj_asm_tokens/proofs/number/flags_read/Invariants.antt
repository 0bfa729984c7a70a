use Rattle.std.proofs.Common.{◌≡◌, ◌≤◌, ◌<◌, length}
use Rattle.dj_asm_tokens.specs.trusted.Words.{word_units}
use Rattle.dj_asm_tokens.specs.Numbers.{flags_from}
use Rattle.dj_asm_tokens.proofs.number.flags_read.Given as goal

-- the rest decides
abbrev pub invariant-loop-unit : goal.invariant-loop-unit
invariant-loop-unit l = record {
  reads : flags_from l.count l.flags (word_units 0 l.rest) ≡ flags_from 0 0 (word_units 0 l.bytes);
  few : l.count ≤ 4;
  none : l.count < 1 → l.flags < 1;
  one : l.count < 2 → l.flags < 16;
  two : l.count < 3 → l.flags < 256;
  three : l.count < 4 → l.flags < 4096;
}

abbrev pub decreases-loop-unit : goal.decreases-loop-unit
decreases-loop-unit l = length l.rest
