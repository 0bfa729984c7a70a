use Rattle.std.proofs.Common.{sym, ◌∙◌}
use Rattle.dj_report.proofs.Adding.{not_both}
use Rattle.dj_early_rules.proofs.FloatLetters.{no_letter}
use Rattle.dj_early_rules.proofs.Judging.{reported_float, no_float}
use Rattle.dj_early_rules.proofs.judged.has_float.Goals as goal

pub returns-then-not-may_have_float : goal.returns-then-not-may_have_float
returns-then-not-may_have_float c = no_float c.args.text.now (λ begins. not_both c.may_have_float.result (c.may_have_float.ensures.1 begins) c.if-not-may_have_float.true)

pub returns-in-Ok : goal.returns-in-Ok
returns-in-Ok c = reported_float c.args.text.now c.in-Ok.desc c.mentions_float.result c.in-Ok.ensures.ok c.mentions_float.ensures

pub returns-then-not-has_float_letter : goal.returns-then-not-has_float_letter
returns-then-not-has_float_letter c = no_letter c.args.text.now (sym c.has_float_letter.ensures ∙ c.if-not-has_float_letter.true)
