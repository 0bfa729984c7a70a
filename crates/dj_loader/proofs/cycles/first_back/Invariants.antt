use Rattle.std.proofs.Common.{ℕ, ◌<◌}
use Rattle.dj_graph.specs.Graphs.{edges_of}
use Rattle.dj_loader.specs.Numbered.{LeadsBack}
use Rattle.dj_loader.proofs.cycles.first_back.Given as goal

-- none so far
abbrev pub invariant-loop-node : goal.invariant-loop-node
invariant-loop-node l = (j : ℕ) → j < l.node → LeadsBack (edges_of l.edges) l.numbers j → ⊥
