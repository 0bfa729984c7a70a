use Rattle.std.proofs.Common.{sym, ◌∙◌}
use Rattle.dj_early_rules.proofs.Stands.{bracket_name, reflective_name}
use Rattle.dj_early_rules.proofs.judged.is_reflective_text.Goals as goal

pub is_reflective_desc-requires : goal.is_reflective_desc-requires
is_reflective_desc-requires c = bracket_name c.args.text.now (sym c.starts_with.ensures.value ∙ c.if-starts_with.true)

pub returns : goal.returns
returns c = reflective_name c.args.text.now c.is_reflective_name.result (sym c.starts_with.ensures.value ∙ c.if-starts_with.false) c.is_reflective_name.ensures
