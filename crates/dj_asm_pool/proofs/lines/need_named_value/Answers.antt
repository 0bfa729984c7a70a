use Rattle.std.proofs.Common.{◌∷◌, [], sym, subst}
use Rattle.dj_asm_source.specs.TypeViews.{value_view}
use Rattle.dj_asm_pool.specs.trusted.Needs.{value_entry, constant_value_name}
use Rattle.dj_asm_pool.specs.PoolNeeds.{PutsNeeds}
use Rattle.dj_asm_pool.proofs.NeedSteps.{two_needs}
use Rattle.dj_asm_pool.proofs.lines.need_named_value.Goals as goal

pub returns : goal.returns
returns c =
    subst (λ r. PutsNeeds c.args.pool.now (constant_value_name ∷ (value_entry (value_view c.args.value) ∷ [])) c.need_value.new.pool r) (sym c.both.ensures)
    (two_needs c.args.pool.now c.need_text.new.pool c.need_value.new.pool constant_value_name (value_entry (value_view c.args.value)) c.in_ok-name.name c.in_ok-constant.constant c.in_ok-name.ensures c.in_ok-constant.ensures)
