use Rattle.std.proofs.Common.{◌≡◌, ◌≤◌, ◌++◌, take, map, IfSome, string_bytes}
use Rattle.dj_class_set.specs.trusted.Limits.{AreWithin, total_bytes}
use Rattle.djvm_cli.specs.Steps.{files_at}
use Rattle.djvm_cli.specs.Views.{source_view}
use Rattle.djvm_cli.proofs.load.read_files.Given as goal

abbrev pub invariant-loop-path : goal.invariant-loop-path
invariant-loop-path g l = record {
  held : g.F.Files.held l.files ≡ g.F.Files.held l.initial.files;
  counted : g.F.Files.faults l.initial.files ≤ g.F.Files.faults l.files;
  asked : g.F.Files.asked l.files ≡ g.F.Files.asked l.initial.files ++ take l.path-index (map string_bytes l.paths);
  paths : map (λ file. string_bytes file.path) l.read.items ≡ take l.path-index (map string_bytes l.paths);
  within : AreWithin (map source_view l.read.items);
  total : l.total ≡ total_bytes (map source_view l.read.items);
  reported : IfSome (g.F.Files.held l.initial.files) (λ h. map source_view l.read.items ≡ take l.path-index (files_at h (map string_bytes l.paths)));
}
