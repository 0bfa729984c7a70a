use Rattle.std.proofs.Common.{◌∷◌, [], sym, subst}
use Rattle.dj_asm_pool.specs.trusted.Entries.{Utf8}
use Rattle.dj_asm_pool.specs.PoolNeeds.{PutsNeeds}
use Rattle.dj_asm_pool.proofs.NeedSteps.{two_needs}
use Rattle.dj_asm_pool.proofs.needs.need_names.Goals as goal

pub returns : goal.returns
returns c =
    subst (λ r. PutsNeeds c.args.pool.now (Utf8 c.args.name.now ∷ (Utf8 c.args.desc.now ∷ [])) c.need_text-2.new.pool r) (sym c.both.ensures)
    (two_needs c.args.pool.now c.need_text.new.pool c.need_text-2.new.pool (Utf8 c.args.name.now) (Utf8 c.args.desc.now) c.in_ok-first.first c.in_ok-second.second c.in_ok-first.ensures c.in_ok-second.ensures)
