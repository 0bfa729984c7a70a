use Rattle.std.proofs.Common.{ℕ, ◌++◌, ◌∷◌, [], List, sym, ap, subst, ◌∙◌}
use Rattle.std.specs.Prelude.{OnOk}
use Rattle.std.specs.Option.{option_to_list}
use Rattle.dj_image.specs.Uses.{pushed_text}
use Rattle.dj_image.specs.declared.uses.Use.{Use}
use Rattle.dj_image.specs.Texts.{AreTexts}
use Rattle.dj_image.proofs.TextFacts.{not_pushed, nothing_more}
use Rattle.dj_image.proofs.texts.add_use.Goals as goal

pub returns-in_ok-units-in-Pushed : goal.returns-in_ok-units-in-Pushed
returns-in_ok-units-in-Pushed c = λ all same.
    subst (λ (more : List (List ℕ)). OnOk c.add_text.result (AreTexts (all ++ more) c.add_text.new.texts))
    (ap (λ (units : List ℕ). units ∷ []) (c.as_slice.ensures ∙ c.in_ok-units-in-Pushed.ensures) ∙ sym (ap (λ (one : Use). option_to_list (pushed_text c.args.pool.now one)) c.in-Pushed.is))
    (c.add_text.ensures all same)

pub returns-in_default : goal.returns-in_default
returns-in_default c = λ all same. nothing_more (pushed_text c.args.pool.now c.args.one) all _ (not_pushed c.args.pool.now c.args.one c.in_default.not-Pushed) same
