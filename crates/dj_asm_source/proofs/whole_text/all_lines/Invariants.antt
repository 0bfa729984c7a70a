use Rattle.std.proofs.Common.{length}
use Rattle.dj_asm_source.specs.Readings.{IsReading}
use Rattle.dj_asm_source.proofs.whole_text.all_lines.Given as goal

-- what was read and what is left are the text
abbrev pub invariant-loop-read : goal.invariant-loop-read
invariant-loop-read l = IsReading l.text l.read l.unread

-- the bytes that are left
abbrev pub decreases-loop-read : goal.decreases-loop-read
decreases-loop-read l = length l.unread.rest
