use Rattle.std.proofs.Common.{◌∷◌, [], sym, subst}
use Rattle.dj_asm_pool.specs.trusted.Entries as entries
use Rattle.dj_asm_pool.specs.PoolNeeds.{PutsNeeds}
use Rattle.dj_asm_pool.proofs.NeedSteps.{string_need}
use Rattle.dj_asm_pool.proofs.needs.need_string.Goals as goal

pub returns : goal.returns
returns c =
    subst (λ r. PutsNeeds c.args.pool.now (entries.Text c.args.text.now ∷ []) c.string.new.self r) (sym c.has_room.ensures)
    (string_need c.args.pool.now c.string.new.self c.args.text.now c.in_ok-index.index c.is_short.result c.in_ok-index.ensures c.is_short.ensures)
