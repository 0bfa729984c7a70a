use Rattle.std.proofs.Common.{◌∷◌, [], sym, subst}
use Rattle.dj_asm_pool.specs.trusted.Entries.{Utf8}
use Rattle.dj_asm_pool.specs.trusted.Needs.{code_name}
use Rattle.dj_asm_pool.specs.PoolNeeds.{PutsNeeds}
use Rattle.dj_asm_pool.proofs.NeedSteps.{needs_then}
use Rattle.dj_asm_pool.proofs.lines.need_method.Goals as goal

pub returns : goal.returns
returns c =
    subst (λ r. PutsNeeds c.args.pool.now (Utf8 c.args.name.now ∷ (Utf8 c.args.desc.now ∷ (code_name ∷ []))) c.need_text.new.pool r) (sym c.both.ensures)
    (needs_then c.args.pool.now (Utf8 c.args.name.now ∷ (Utf8 c.args.desc.now ∷ [])) c.need_names.new.pool (code_name ∷ []) c.need_text.new.pool
    c.in_ok-names.names c.in_ok-code.code c.in_ok-names.ensures c.in_ok-code.ensures)
