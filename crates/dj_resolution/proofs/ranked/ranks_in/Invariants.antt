use Rattle.std.proofs.Common.{◌≡◌, length}
use Rattle.dj_resolution.proofs.ranked.ranks_in.Given as goal

-- as many as there are classes
abbrev pub invariant-loop-rank : goal.invariant-loop-rank
invariant-loop-rank l = length l.ranks.items ≡ l.count
