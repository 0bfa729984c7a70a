use Rattle.std.proofs.Common.{[], Option, Some, subst, sym}
use Rattle.dj_natives.specs.Counting.{Counter}
use Rattle.dj_image_step.specs.Natives.{AnswersNative}
use Rattle.dj_image_step.proofs.HostLaws.{plain_answers}
use Rattle.dj_image_step.proofs.hosting.answer_plainly.Goals as goal

pub returns-in-Some : goal.returns-in-Some
returns-in-Some c =
    subst (λ (k : Option Counter). AnswersNative c.args.image.now c.args.heap.now c.answer_counted.new.heap k (Some c.answer_counted.new.accounter) [] c.args.id c.args.args.now c.answer_counted.result)
    (sym c.in-Some.is)
    (plain_answers c.args.image.now c.args.heap.now c.answer_counted.new.heap (Some c.in-Some.accounter) (Some c.answer_counted.new.accounter) c.args.id c.args.args.now c.answer_counted.result c.answer_counted.ensures)

pub returns-in-None : goal.returns-in-None
returns-in-None c = rw c.in-None.is (plain_answers _ _ _ _ _ _ _ _ c.answer_uncounted.ensures)
