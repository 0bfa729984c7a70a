use Rattle.std.proofs.Common.{◌++◌, map, sym, subst}
use Rattle.std.specs.List.{flat_map}
use Rattle.dj_asm_source.specs.TypeViews.{type_view}
use Rattle.dj_asm_pool.specs.trusted.Needs.{type_entries}
use Rattle.dj_asm_pool.specs.PoolNeeds.{PutsNeeds}
use Rattle.dj_asm_pool.proofs.NeedSteps.{needs_then}
use Rattle.dj_asm_pool.proofs.operations.need_both_types.Goals as goal

pub returns : goal.returns
returns c =
    let first = flat_map type_entries (map type_view c.args.locals.now) in
    let second = flat_map type_entries (map type_view c.args.stack.now) in
    subst (λ r. PutsNeeds c.args.pool.now (first ++ second) c.need_types-2.new.pool r) (sym c.both.ensures)
    (needs_then c.args.pool.now first c.need_types.new.pool second c.need_types-2.new.pool c.in_ok-first.first c.in_ok-second.second c.in_ok-first.ensures c.in_ok-second.ensures)
