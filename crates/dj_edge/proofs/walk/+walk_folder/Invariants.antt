use Rattle.std.proofs.Common.{◌≡◌, ◌≤◌, take}
use Rattle.dj_edge.proofs.Walking.{SoFar}
use Rattle.dj_edge.proofs.walk.+walk_folder.Given as goal

abbrev pub decreases-walk_folder : goal.decreases-walk_folder
decreases-walk_folder g l = l.levels

abbrev pub invariant-loop-entry : goal.invariant-loop-entry
invariant-loop-entry g l = record {
  few : l.walk.entries ≤ 1048576;
  same : g.F.Folders.tree l.folders ≡ g.F.Folders.tree l.initial.folders;
  met : SoFar (g.F.Folders.tree l.initial.folders) l.levels (take l.entry-index l.entry-items) l.initial.walk l.walk;
}
