use Rattle.std.proofs.Common.{◌≡◌, ◌&&◌, map, take, filter, codes, string_bytes, nat_eq}
use Rattle.std.specs.List.{starts_with, ends_with}
use Rattle.dj_edge.specs.InMemory.{files_in}
use Rattle.dj_edge.proofs.stored.paths_below.Given as goal

abbrev pub invariant-loop-file : goal.invariant-loop-file
invariant-loop-file l = map string_bytes l.paths.items
    ≡ map (λ file. file.0) (filter (λ file. starts_with nat_eq file.0 l.start && ends_with nat_eq file.0 (codes ".class")) (files_in (take l.file-index l.files)))
