use Rattle.dj_graph.specs.Graphs.{edges_of}
use Rattle.dj_graph.specs.Searches.{effort}
use Rattle.dj_graph.proofs.Explored.{IsExploring}
use Rattle.dj_graph.proofs.steps.explore.Given as goal

abbrev pub invariant-loop-start : goal.invariant-loop-start
invariant-loop-start l = IsExploring (edges_of l.edges) l.root l.fn.search l.search

abbrev pub decreases-loop-start : goal.decreases-loop-start
decreases-loop-start l = effort (edges_of l.edges) l.search
