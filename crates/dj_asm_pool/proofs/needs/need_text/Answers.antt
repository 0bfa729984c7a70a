use Rattle.std.proofs.Common.{◌∷◌, [], refl, sym, subst}
use Rattle.dj_asm_pool.specs.trusted.Entries as entries
use Rattle.dj_asm_pool.specs.PoolNeeds.{PutsNeeds}
use Rattle.dj_asm_pool.proofs.PoolChains.{alone}
use Rattle.dj_asm_pool.proofs.NeedSteps.{text_need}
use Rattle.dj_asm_pool.proofs.needs.need_text.Goals as goal

pub returns : goal.returns
returns c =
    subst (λ r. PutsNeeds c.args.pool.now (entries.Utf8 c.args.text.now ∷ []) c.utf8-2.new.self r) (sym c.has_room.ensures)
    (text_need c.args.pool.now c.utf8-2.new.self c.args.text.now c.in_ok-index.index c.is_short.result (alone c.args.pool.now (entries.Utf8 c.args.text.now) c.utf8-2.new.self c.in_ok-index.index refl c.in_ok-index.ensures) c.is_short.ensures)
