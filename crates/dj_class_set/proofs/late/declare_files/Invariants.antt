use Rattle.std.proofs.Common.{map, take}
use Rattle.dj_file_rules.specs.Views.{path_file_view}
use Rattle.dj_class_set.specs.Late.{AreDeclared}
use Rattle.dj_class_set.proofs.late.declare_files.Given as goal

-- the classes of the files so far
abbrev pub invariant-loop-file : goal.invariant-loop-file
invariant-loop-file l = AreDeclared (map path_file_view (take l.file-index l.files)) l.declared.items
