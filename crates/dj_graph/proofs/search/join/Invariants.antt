use Rattle.std.proofs.Common.{length}
use Rattle.dj_graph.proofs.Starts.{IsJoining}
use Rattle.dj_graph.proofs.search.join.Given as goal

abbrev pub invariant-loop-last : goal.invariant-loop-last
invariant-loop-last l = IsJoining l.place l.initial.starts.items l.starts.items

abbrev pub decreases-loop-last : goal.decreases-loop-last
decreases-loop-last l = length l.starts.items
