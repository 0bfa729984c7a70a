use Rattle.std.proofs.Common.{◌≡◌, map, take}
use Rattle.dj_graph.specs.Graphs.{edges_of}
use Rattle.dj_loader.specs.Numbered.{above_numbers}
use Rattle.dj_loader.proofs.cycles.edges_of_table.Given as goal

-- those of the classes so far
abbrev pub invariant-loop-class : goal.invariant-loop-class
invariant-loop-class l = edges_of l.edges.items ≡ map (above_numbers l.table) (take l.class l.table)
