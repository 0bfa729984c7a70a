use Rattle.std.proofs.Common.{◌≡◌, length}
use Rattle.dj_resolution.proofs.order.listed_counts.Given as goal

-- one a class
abbrev pub invariant-loop-class : goal.invariant-loop-class
invariant-loop-class l = length l.counts.items ≡ l.class
