use Rattle.std.proofs.Common.{sym, ◌∙◌}
use Rattle.dj_early_rules.proofs.Noted.{bor, noted_first, noted_again}
use Rattle.dj_early_rules.proofs.judged.note_text.Goals as goal

pub returns-in-None : goal.returns-in-None
returns-in-None c =
    noted_first c.args.indexes.now c.insert.new.self c.args.text.now c.args.index (sym c.in_ok-insert.ensures.old ∙ c.in-None.is)
    (λ text. c.in_ok-insert.ensures.updates.0 (bor text))

pub returns-in_ok-insert-in-Some : goal.returns-in_ok-insert-in-Some
returns-in_ok-insert-in-Some c =
    noted_again c.args.indexes.now c.insert.new.self c.insert-in-Some.new.self c.args.text.now c.args.index c.in-Some.first (sym c.in_ok-insert.ensures.old ∙ c.in-Some.is)
    (λ text. c.in_ok-insert.ensures.updates.0 (bor text)) (λ text. c.in_ok-insert-in-Some.ensures.updates.0 (bor text))
