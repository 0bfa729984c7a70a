use Rattle.std.proofs.Common.{◌∷◌, [], sym, subst}
use Rattle.std.specs.Option.{option_map}
use Rattle.dj_asm_source.specs.TypeViews.{value_view}
use Rattle.dj_asm_pool.specs.trusted.Entries.{Utf8}
use Rattle.dj_asm_pool.specs.trusted.Needs.{value_entries}
use Rattle.dj_asm_pool.specs.PoolNeeds.{PutsNeeds}
use Rattle.dj_asm_pool.proofs.NeedSteps.{needs_then}
use Rattle.dj_asm_pool.proofs.lines.need_field.Goals as goal

pub returns : goal.returns
returns c =
    subst (λ r. PutsNeeds c.args.pool.now (Utf8 c.args.name.now ∷ (Utf8 c.args.desc.now ∷ value_entries (option_map value_view c.args.value))) c.need_constant.new.pool r) (sym c.both.ensures)
    (needs_then c.args.pool.now (Utf8 c.args.name.now ∷ (Utf8 c.args.desc.now ∷ [])) c.need_names.new.pool (value_entries (option_map value_view c.args.value)) c.need_constant.new.pool
    c.in_ok-names.names c.in_ok-constant.constant c.in_ok-names.ensures c.in_ok-constant.ensures)
