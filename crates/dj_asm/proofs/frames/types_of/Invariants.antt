use Rattle.std.proofs.Common.{◌≡◌, map, take}
use Rattle.dj_asm_source.specs.TypeViews.{type_view}
use Rattle.dj_asm_pool.specs.Pooling.{found_index}
use Rattle.dj_asm.specs.trusted.Codes.{type_of}
use Rattle.dj_asm.specs.trusted.Files.{places_of}
use Rattle.dj_asm.proofs.frames.types_of.Given as goal

abbrev pub invariant-loop-ty : goal.invariant-loop-ty
invariant-loop-ty l = l.types ≡ map (type_of (places_of (found_index l.pool) l.labels)) (map type_view (take l.ty-index l.list))
