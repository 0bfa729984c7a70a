use Rattle.std.proofs.Common.{◌≡◌, ℕ, List, Option, Some, sym, ap, ◌∙◌}
use Rattle.std.specs.Prelude.{option_and_then, option_copied}
use Rattle.dj_pool.specs.trusted.Pool.{both, text_at}
use Rattle.dj_pool.specs.Views.{constant_of}
use Rattle.dj_early_rules.specs.trusted.Classes.{names_at}
use Rattle.dj_link_rules.proofs.NameNumbers.{are_numbered}
use Rattle.dj_link_rules.proofs.PoolLinks.{names_there}
use Rattle.dj_link_rules.proofs.name_numbers.member_name.Goals as goal

pub returns-clause-named : goal.returns-clause-named
returns-clause-named c =
    let pool = c.args.pool.now in
    let name = c.in_ok-name.name in
    let desc = c.in_ok-desc.desc in
    let name_at : text_at pool c.in_ok-name_index.name_index ≡ Some name.now = sym c.text.ensures ∙ ap option_copied c.in_ok-name.was in
    let desc_at : text_at pool c.in_ok-name_index.desc_index ≡ Some desc.now = sym c.text-2.ensures ∙ ap option_copied c.in_ok-desc.was in
    let names : names_at pool (constant_of c.args.entry) ≡ Some (name.now, desc.now) =
    c.name_indexes.ensures ∙ ap (option_and_then (λ (x : ℕ × ℕ). both (text_at pool x.0) (text_at pool x.1))) c.in_ok-name_index.was
    ∙ ap (λ (o : Option (List ℕ)). both o (text_at pool c.in_ok-name_index.desc_index)) name_at ∙ ap (both (Some name.now)) desc_at in
    are_numbered c.args.directory pool c.in_ok-name_index.name_index c.in_ok-name_index.desc_index
    (record { name = name; desc = desc; name_number = c.see_numbers-name_number.result.0; desc_number = c.see_numbers-name_number.result.1 })
    name_at desc_at (names_there pool (constant_of c.args.entry) name.now desc.now c.requires.linked (sym names)) c.see_numbers-name_number.ensures.numbers
