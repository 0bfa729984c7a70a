use Rattle.std.proofs.Common.{◌&&◌, ◌+◌, Some, map, take, sym, ap, ◌∙◌, subst}
use Rattle.std.proofs.lemmas.Option.{slice_get-get_or}
use Rattle.std.specs.List.{flat_map}
use Rattle.dj_asm_source.specs.TypeViews.{type_view}
use Rattle.dj_asm_pool.specs.trusted.Needs.{type_entries}
use Rattle.dj_asm_pool.specs.PoolNeeds.{PutsNeeds}
use Rattle.dj_asm_pool.proofs.NeedSteps.{needs_then, types_more}
use Rattle.dj_asm_pool.proofs.types.need_types.Goals as goal

pub loop-ty-preserved : goal.loop-ty-preserved
loop-ty-preserved c =
    subst (λ r. PutsNeeds c.args.pool.now (flat_map type_entries (map type_view (take (c.loop-ty.ty-index + 1) c.args.types.now))) c.need_type.new.pool r) (sym c.both-room.ensures)
    (subst (λ l. PutsNeeds c.args.pool.now l c.need_type.new.pool (c.loop-ty.room && c.in_ok-one.one)) (types_more c.args.types.now c.loop-ty.ty-index c.ty-item.result (slice_get-get_or c.args.types.now c.loop-ty.ty-index c.ty-item.result c.loop-ty-test.true ∙ ap Some (sym c.ty-item.is)))
    (needs_then c.args.pool.now (flat_map type_entries (map type_view (take c.loop-ty.ty-index c.args.types.now))) c.loop-ty.pool _ c.need_type.new.pool c.loop-ty.room c.in_ok-one.one c.loop-ty.invariant c.in_ok-one.ensures))
