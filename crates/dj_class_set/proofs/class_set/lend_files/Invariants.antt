use Rattle.std.proofs.Common.{◌≡◌, map, take}
use Rattle.dj_edge.specs.InMemory.{files_in}
use Rattle.dj_file_rules.specs.Views.{path_file_view}
use Rattle.dj_class_set.proofs.class_set.lend_files.Given as goal

-- the files so far
abbrev pub invariant-loop-file : goal.invariant-loop-file
invariant-loop-file l = map path_file_view l.lent.items ≡ take l.file-index (files_in l.files)
