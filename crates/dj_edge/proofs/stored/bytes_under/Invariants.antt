use Rattle.std.proofs.Common.{◌≡◌, drop}
use Rattle.std.specs.Ordering.{nat_cmp}
use Rattle.std.specs.Cmp.Lexicographic.{slice_cmp}
use Rattle.std.specs.FinMap.{find}
use Rattle.dj_edge.specs.InMemory.{files_in}
use Rattle.dj_edge.proofs.stored.bytes_under.Given as goal

abbrev pub invariant-loop-file : goal.invariant-loop-file
invariant-loop-file l = find (slice_cmp nat_cmp) l.path (files_in (drop l.file-index l.files)) ≡ find (slice_cmp nat_cmp) l.path (files_in l.files)
