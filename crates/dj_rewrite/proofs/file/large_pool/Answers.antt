use Rattle.std.proofs.Common.{sym, subst}
use Rattle.dj_class.specs.Views.{class_of}
use Rattle.dj_image.specs.Imaged.{program_of}
use Rattle.dj_rewrite.specs.Answers.{AnswersMethod, AreAnswers}
use Rattle.dj_rewrite.proofs.NewMembers.{as_many_answers}
use Rattle.dj_rewrite.proofs.Files.{told_pool}
use Rattle.dj_rewrite.proofs.file.large_pool.Goals as goal

pub large_texts-requires-clause-answers : goal.large_texts-requires-clause-answers
large_texts-requires-clause-answers c =
    as_many_answers (AnswersMethod (program_of c.args.image.now) c.args.view.now.pool 1) c.args.view.now.methods c.as_slice-made.result.now
    (subst (AreAnswers (program_of c.args.image.now) c.args.view.now.pool 1 c.args.view.now.methods) (sym c.as_slice-made.ensures.value) c.in_ok-answers.ensures)

pub returns : goal.returns
returns c =
    let each = subst (AreAnswers (program_of c.args.image.now) c.args.view.now.pool 1 c.args.view.now.methods) (sym c.as_slice-made.ensures.value) c.in_ok-answers.ensures in
    c.in_ok-texts.ensures (program_of c.args.image.now) (told_pool (program_of c.args.image.now) (class_of c.args.view.now) c.requires.known c.requires.large 1 c.as_slice-made.result.now each)
