use Rattle.std.proofs.Common.{◌≡◌}
use Rattle.dj_edge.proofs.Reading.{ReadSoFar}
use Rattle.dj_edge.proofs.walk.read_folder.Given as goal

abbrev pub invariant-loop-count : goal.invariant-loop-count
invariant-loop-count g l = record {
  same : g.F.Folders.tree l.folders ≡ g.F.Folders.tree l.fn.folders;
  read : ReadSoFar (g.F.Folders.tree l.fn.folders) l.folder (g.F.Folders.left l.folders) l.kept.items l.count;
}
