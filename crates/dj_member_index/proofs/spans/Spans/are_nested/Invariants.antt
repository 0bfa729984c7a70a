use Rattle.std.proofs.Common.{ℕ, ◌<◌}
use Rattle.dj_member_index.specs.Spans.{IsNested}
use Rattle.dj_member_index.proofs.spans.Spans.are_nested.Given as goal

-- those so far
abbrev pub invariant-loop-class : goal.invariant-loop-class
invariant-loop-class l = (k : ℕ) → k < l.class → IsNested l.table l.self k
