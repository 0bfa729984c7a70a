use Rattle.std.proofs.Common.{take, map}
use Rattle.std.specs.List.{flat_map}
use Rattle.dj_asm_source.specs.TypeViews.{type_view}
use Rattle.dj_asm_pool.specs.trusted.Needs.{type_entries}
use Rattle.dj_asm_pool.specs.PoolNeeds.{PutsNeeds}
use Rattle.dj_asm_pool.proofs.types.need_types.Given as goal

abbrev pub invariant-loop-ty : goal.invariant-loop-ty
invariant-loop-ty l = PutsNeeds l.initial.pool (flat_map type_entries (map type_view (take l.ty-index l.types))) l.pool l.room
