use Rattle.std.proofs.Common.{◌∷◌, [], sym, subst}
use Rattle.dj_asm_pool.specs.trusted.Entries as entries
use Rattle.dj_asm_pool.specs.PoolNeeds.{PutsNeeds}
use Rattle.dj_asm_pool.proofs.NeedSteps.{dynamic_need}
use Rattle.dj_asm_pool.proofs.needs.need_dynamic.Goals as goal

pub returns : goal.returns
returns c =
    subst (λ r. PutsNeeds c.args.pool.now (entries.Dynamic c.args.place c.args.name.now c.args.desc.now ∷ []) c.dynamic.new.self r) (sym c.has_room.ensures)
    (dynamic_need c.args.pool.now c.dynamic.new.self c.args.place c.args.name.now c.args.desc.now c.in_ok-index.index c.are_short.result c.in_ok-index.ensures c.are_short.ensures)
