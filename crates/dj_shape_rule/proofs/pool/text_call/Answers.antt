use Rattle.std.proofs.Common.{ap, sym, ◌∙◌, option_and_then}
use Rattle.dj_names.proofs.DescLaws.{desc_again}
use Rattle.dj_model.specs.trusted.Kinds.{call_signature}
use Rattle.dj_shape_rule.proofs.Keeping.{not_opened}
use Rattle.dj_shape_rule.proofs.Works.{ok_more}
use Rattle.dj_shape_rule.proofs.pool.text_call.Goals as goal

pub returns-in-Ok : goal.returns-in-Ok
returns-in-Ok c =
    ok_more c.desc_call.result _ _ (λ call is. is ∙ ap (option_and_then call_signature) (sym (desc_again c.args.text.now c.in-Ok.desc c.in-Ok.ensures.ok))) c.desc_call.ensures

pub returns-then-not-opens_method : goal.returns-then-not-opens_method
returns-then-not-opens_method c = sym (not_opened c.args.text.now (sym c.opens_method.ensures ∙ c.if-not-opens_method.true))
