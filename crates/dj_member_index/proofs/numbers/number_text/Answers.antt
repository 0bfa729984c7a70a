use Rattle.std.proofs.Common.{ℕ, ◌+◌, Option, cond, sym, ap, ◌∙◌, btree_map_len}
use Rattle.std.specs.Option.{is_some}
use Rattle.dj_member_index.proofs.NumberLaws.{bor, numbered_first, numbered_again}
use Rattle.dj_member_index.proofs.numbers.number_text.Goals as goal

pub returns-in-Some : goal.returns-in-Some
returns-in-Some c = numbered_again c.args.numbers.now c.args.text.now c.in-Some.number (sym c.in-Some.ensures) c.requires

pub returns : goal.returns
returns c =
    let none = sym c.number_in.ensures ∙ c.in_default.is in
    numbered_first c.args.numbers.now c.insert.new.self c.args.text.now c.in-Ok.number none c.requires
    (λ text. c.in_ok-insert.ensures.updates.0 (bor text)) (c.in-Ok.ensures.1 ∙ c.len.ensures.len)
    (c.in_ok-insert.ensures.len ∙ ap (λ (o : Option ℕ). btree_map_len c.args.numbers.now + cond (is_some o) 0 1) (c.in_ok-insert.ensures.old ∙ none))
