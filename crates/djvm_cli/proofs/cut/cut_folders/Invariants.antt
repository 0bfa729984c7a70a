use Rattle.std.proofs.Common.{◌≡◌, map}
use Rattle.dj_edge.specs.InMemory.{files_in}
use Rattle.djvm_cli.specs.trusted.Report.{within_folder}
use Rattle.djvm_cli.specs.Views.{source_view}
use Rattle.djvm_cli.proofs.cut.cut_folders.Given as goal

-- the files so far
abbrev pub invariant-loop-file : goal.invariant-loop-file
invariant-loop-file l = files_in l.within.items ≡ map (within_folder l.folder) (map source_view l.yielded)
