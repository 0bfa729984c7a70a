use Rattle.std.proofs.Common.{◌+◌, ◌≤◌, length}
use Rattle.dj_asm_source.proofs.whole_text.lines_with_words.Given as goal

-- each line has a byte
abbrev pub invariant-loop-bytes : goal.invariant-loop-bytes
invariant-loop-bytes l = l.count + length l.rest ≤ length l.text

abbrev pub decreases-loop-bytes : goal.decreases-loop-bytes
decreases-loop-bytes l = length l.rest
