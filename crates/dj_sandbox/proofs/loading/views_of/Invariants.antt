use Rattle.std.proofs.Common.{map, take}
use Rattle.dj_class.specs.Views.{class_of}
use Rattle.dj_file_rules.specs.Views.{path_file_view}
use Rattle.dj_class_set.specs.Late.{AreReadFiles}
use Rattle.dj_sandbox.proofs.loading.views_of.Given as goal

-- the files so far
abbrev pub invariant-loop-file : goal.invariant-loop-file
invariant-loop-file l = AreReadFiles (map path_file_view (take l.file-index l.files)) (map class_of l.views.items)
