use Rattle.std.proofs.Common.{◌≡◌, ℕ, List, Option, Some, option_and_then, sym, ap, subst, ◌∙◌}
use Rattle.dj_pool.specs.trusted.Pool.{both, text_at, name_and_type_at}
use Rattle.dj_image.specs.Homes.{IsDescribed}
use Rattle.dj_image.proofs.NameNumbers.{are_numbered}
use Rattle.dj_image.proofs.name_numbers.member_name.Goals as goal

pub returns-clause-numbered : goal.returns-clause-numbered
returns-clause-numbered c = λ directory kept described.
    let pool = c.args.pool.now in
    let name = c.in_ok-name.name in
    let desc = c.in_ok-desc.desc in
    let names : name_and_type_at pool c.args.names ≡ Some (name.now, desc.now) =
    ap (option_and_then (λ (x : ℕ × ℕ). both (text_at pool x.0) (text_at pool x.1))) (sym c.names.ensures ∙ c.in_ok-name_index.was)
    ∙ ap (λ (o : Option (List ℕ)). both o (text_at pool c.in_ok-name_index.desc_index)) (sym c.in_ok-name.ensures) ∙ ap (both (Some name.now)) (sym c.in_ok-desc.ensures) in
    are_numbered directory pool c.args.numbers.now c.in_ok-name_index.name_index c.in_ok-name_index.desc_index _ kept
    (sym c.in_ok-name.ensures) (sym c.in_ok-desc.ensures) c.number_at.ensures c.number_at-2.ensures (subst IsDescribed names described)
