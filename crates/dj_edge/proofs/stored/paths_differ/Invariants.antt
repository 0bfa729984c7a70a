use Rattle.std.proofs.Common.{take}
use Rattle.dj_edge.specs.InMemory.{files_in, PathsDiffer}
use Rattle.dj_edge.proofs.stored.paths_differ.Given as goal

abbrev pub invariant-loop-index : goal.invariant-loop-index
invariant-loop-index l = PathsDiffer (files_in (take l.index l.held))
