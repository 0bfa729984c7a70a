use Rattle.std.proofs.Common.{ℕ, sym, subst, ◌∙◌}
use Rattle.dj_class.specs.Views.{class_of}
use Rattle.dj_image.specs.Imaged.{program_of}
use Rattle.dj_rewrite.specs.Answers.{AnswersMethod, AreAnswers}
use Rattle.dj_rewrite.specs.Steps.{IsNewPool}
use Rattle.dj_rewrite.proofs.NewMembers.{as_many_answers, large_any, none_large}
use Rattle.dj_rewrite.proofs.Refusals.{first_there}
use Rattle.dj_rewrite.proofs.Files.{told_methods}
use Rattle.dj_rewrite.proofs.file.with_pool.Goals as goal

pub answer_methods-requires-clause-first : goal.answer_methods-requires-clause-first
answer_methods-requires-clause-first c = first_there (class_of c.args.view.now) c.args.new.pool c.args.new.descs c.args.new.first c.requires.pool c.requires.first

pub large_texts-requires-clause-answers : goal.large_texts-requires-clause-answers
large_texts-requires-clause-answers c =
    as_many_answers (AnswersMethod (program_of c.args.image.now) c.args.view.now.pool c.args.new.first) c.args.view.now.methods c.as_slice-made.result.now
    (subst (AreAnswers (program_of c.args.image.now) c.args.view.now.pool c.args.new.first c.args.view.now.methods) (sym c.as_slice-made.ensures.value) c.in_ok-answers.ensures)

pub returns-then-has_large : goal.returns-then-has_large
returns-then-has_large c =
    let program = program_of c.args.image.now in
    let file = class_of c.args.view.now in
    let made = c.as_slice-made.result.now in
    let each = subst (AreAnswers program file.pool c.args.new.first file.methods) (sym c.as_slice-made.ensures.value) c.in_ok-answers.ensures in
    c.in_ok-texts.ensures program (told_methods program file c.requires.known c.requires.pool.fits c.args.new.first made each (large_any made (sym c.has_large.ensures ∙ c.if-has_large.true)))

pub written-requires-clause-answers : goal.written-requires-clause-answers
written-requires-clause-answers c =
    as_many_answers (AnswersMethod (program_of c.args.image.now) c.args.view.now.pool c.args.new.first) c.args.view.now.methods c.as_slice-made.result.now
    (subst (AreAnswers (program_of c.args.image.now) c.args.view.now.pool c.args.new.first c.args.view.now.methods) (sym c.as_slice-made.ensures.value) c.in_ok-answers.ensures)

pub written-requires-clause-fit : goal.written-requires-clause-fit
written-requires-clause-fit c = none_large c.as_slice-made.result.now (sym c.has_large.ensures ∙ c.if-has_large.false)

pub written-requires-clause-pool : goal.written-requires-clause-pool
written-requires-clause-pool c = subst (IsNewPool (class_of c.args.view.now) c.args.new.pool) (sym c.as_slice.ensures) c.requires.pool

pub returns : goal.returns
returns c =
    let program = program_of c.args.image.now in
    let file = class_of c.args.view.now in
    let each = subst (AreAnswers program file.pool c.args.new.first file.methods) (sym c.as_slice-made.ensures.value) c.in_ok-answers.ensures in
    c.written.ensures program c.requires.known (subst (λ (n : ℕ). AreAnswers program file.pool n file.methods c.as_slice-made.result.now) c.requires.first each)
