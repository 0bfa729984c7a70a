use Rattle.std.proofs.Common.{◌+◌, List, map, take, ap, sym, subst, ◌∙◌}
use Rattle.std.proofs.lemmas.List.{take_all}
use Rattle.dj_class.specs.Members.{member_of}
use Rattle.dj_class.specs.trusted.ClassFile.{MemberInfo, IsMethod}
use Rattle.dj_image.specs.Imaged.{program_of}
use Rattle.dj_rewrite_code.specs.Answers.{IsKnownMethod}
use Rattle.dj_rewrite.specs.declared.answers.MethodAnswer.{MethodAnswer}
use Rattle.dj_rewrite.specs.Answers.{AnswersMethod, AreAnswers}
use Rattle.dj_rewrite.proofs.NewMembers.{at_member, answers_more}
use Rattle.dj_rewrite.proofs.answers.answer_methods.Goals as goal

pub answer_method-requires-clause-attributes : goal.answer_method-requires-clause-attributes
answer_method-requires-clause-attributes c =
    (at_member (IsMethod c.args.view.now.pool) c.as_slice-method-items.result.now c.args.view.now.methods c.loop-method.method-index c.method-item.result
    c.as_slice-method-items.ensures c.requires.known.valid.methods c.loop-method-test.true c.method-item.is).attributes.each

pub answer_method-requires-clause-known : goal.answer_method-requires-clause-known
answer_method-requires-clause-known c =
    at_member (IsKnownMethod (program_of c.args.image.now) c.args.view.now.pool) c.as_slice-method-items.result.now c.args.view.now.methods c.loop-method.method-index c.method-item.result
    c.as_slice-method-items.ensures c.requires.known.methods c.loop-method-test.true c.method-item.is

pub loop-method-preserved : goal.loop-method-preserved
loop-method-preserved c =
    subst (λ (made : List MethodAnswer). AreAnswers (program_of c.args.image.now) c.args.view.now.pool c.args.first (map member_of (take (c.loop-method.method-index + 1) c.as_slice-method-items.result.now)) made) (sym c.in_ok-push.ensures.items)
    (answers_more (AnswersMethod (program_of c.args.image.now) c.args.view.now.pool c.args.first) c.as_slice-method-items.result.now c.loop-method.method-index c.method-item.result
    c.loop-method.answers.items c.in_ok-answer.answer c.loop-method-test.true c.method-item.is c.loop-method.invariant c.in_ok-answer.ensures)

pub returns : goal.returns
returns c =
    subst (λ (ms : List MemberInfo). AreAnswers (program_of c.args.image.now) c.args.view.now.pool c.args.first ms c.loop-method.answers.items)
    (ap (map member_of) (take_all c.loop-method.method-index c.as_slice-method-items.result.now c.loop-method-test.false) ∙ c.as_slice-method-items.ensures) c.loop-method.invariant
