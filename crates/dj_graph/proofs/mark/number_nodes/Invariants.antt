use Rattle.std.proofs.Common.{take}
use Rattle.dj_graph.specs.Searches.{Numbers}
use Rattle.dj_graph.proofs.mark.number_nodes.Given as goal

abbrev pub invariant-loop-node : goal.invariant-loop-node
invariant-loop-node l = Numbers (take l.node-index l.nodes) l.number l.initial.marks l.marks
