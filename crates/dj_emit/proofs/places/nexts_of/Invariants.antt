use Rattle.std.proofs.Common.{◌≡◌, ℕ, ◌+◌, ◌≤◌, length, get_or}
use Rattle.dj_emit.specs.Parts.{groups_seen}
use Rattle.dj_emit.specs.Places.{IsNext}
use Rattle.dj_emit.proofs.places.nexts_of.Given as goal

abbrev pub invariant-loop-k : goal.invariant-loop-k
invariant-loop-k l = record {
  low : l.k ≤ length l.groups;
  all : length l.next.items ≡ length l.groups + 1;
  each : (j : ℕ) → l.k ≤ j → j ≤ length l.groups → IsNext (groups_seen l.groups) j (get_or l.next.items j 0);
}

abbrev pub decreases-loop-k : goal.decreases-loop-k
decreases-loop-k l = l.k
