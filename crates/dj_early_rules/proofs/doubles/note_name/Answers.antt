use Rattle.dj_early_rules.specs.Doubles.{texts_in}
use Rattle.dj_early_rules.proofs.Keys.{noted, found}
use Rattle.dj_early_rules.proofs.DoubleLaws.{same_name, noted_again, not_again, was_seen, was_new}
use Rattle.dj_early_rules.proofs.doubles.note_name.Goals as goal

pub returns-in_ok-insert-clause-seen : goal.returns-in_ok-insert-clause-seen
returns-in_ok-insert-clause-seen c =
    same_name c.args.file.now c.in-Some.name (texts_in c.args.seen.now) (texts_in c.insert.new.self) c.in-Some.is (noted c.args.seen.now c.insert.new.self c.in-Some.name c.in_ok-new.ensures.keys)

pub returns-in_ok-insert-clause-twice : goal.returns-in_ok-insert-clause-twice
returns-in_ok-insert-clause-twice c =
    noted_again c.args.file.now c.in-Some.name (texts_in c.args.seen.now) (texts_in c.args.twice.now) (texts_in c.insert-then-not-new.new.self) c.in-Some.is
    ((found c.args.seen.now.keys c.in-Some.name).0 (was_seen _ c.in_ok-new.new c.in_ok-new.ensures.added c.if-not-new.true))
    (noted c.args.twice.now c.insert-then-not-new.new.self c.in-Some.name c.in_ok-insert.ensures.keys)

pub returns-else-not-new-clause-seen : goal.returns-else-not-new-clause-seen
returns-else-not-new-clause-seen c =
    same_name c.args.file.now c.in-Some.name (texts_in c.args.seen.now) (texts_in c.insert.new.self) c.in-Some.is (noted c.args.seen.now c.insert.new.self c.in-Some.name c.in_ok-new.ensures.keys)

pub returns-else-not-new-clause-twice : goal.returns-else-not-new-clause-twice
returns-else-not-new-clause-twice c =
    not_again c.args.file.now c.in-Some.name (texts_in c.args.seen.now) (texts_in c.args.twice.now) c.in-Some.is
    (λ m. was_new _ c.in_ok-new.new c.in_ok-new.ensures.added c.if-not-new.false ((found c.args.seen.now.keys c.in-Some.name).1 m))
