use Rattle.std.proofs.Common.{map, take}
use Rattle.dj_class.specs.Views.{class_of}
use Rattle.dj_loader.specs.Filed.{AreOwners}
use Rattle.dj_loader.proofs.owners.owners_of.Given as goal

-- by the files so far
abbrev pub invariant-loop-place : goal.invariant-loop-place
invariant-loop-place l = AreOwners l.table (map class_of (take l.place l.views)) l.owners.items
