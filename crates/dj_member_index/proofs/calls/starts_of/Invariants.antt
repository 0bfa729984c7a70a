use Rattle.std.proofs.Common.{◌≤◌, length}
use Rattle.dj_member_index.proofs.calls.starts_of.Given as goal

-- one of each class so far at most
abbrev pub invariant-loop-class : goal.invariant-loop-class
invariant-loop-class l = length l.starts.items ≤ l.class
