use Rattle.std.proofs.Common.{rules, ℕ, List, [], Option, unwrap_or, sym, ap, ◌∙◌}
use Rattle.std.specs.Option.{option_copied}
use Rattle.dj_program.specs.trusted.Naming.{units_in}
use Rattle.dj_image.proofs.UnitFacts.{spelled_in}
use Rattle.dj_image.proofs.texts.units_at.Goals as goal

pub returns : goal.returns
returns c =
    let there = sym (ap option_copied c.in-Some.is) ∙ c.text.ensures in
    spelled_in c.in-Some.text.now c.in_ok-units.units (search rules) ∙ ap (λ (o : Option (List ℕ)). units_in (unwrap_or o [])) there
