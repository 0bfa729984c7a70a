use Rattle.std.proofs.Common.{◌<◌, List, Option, length, subst, sym, ◌∙◌}
use Rattle.std.specs.Prelude.{IfOk}
use Rattle.dj_names.specs.declared.run.Charge.{Charge}
use Rattle.dj_names.specs.declared.run.Value.{Value}
use Rattle.dj_host.specs.trusted.Hosted.{given_since}
use Rattle.dj_initialisation.specs.Preparing.{parts}
use Rattle.dj_initialisation.specs.Store.{store}
use Rattle.dj_settling.specs.Settling.{IsStop}
use Rattle.dj_image_step.specs.Running.{Running, account_of}
use Rattle.dj_image_step.specs.Doing.{IsStill, TurnsBy, doing}
use Rattle.dj_image_step.specs.Natives.{AnswersNative, CallsNative, NativeSettles, arguments_in}
use Rattle.dj_image_step.proofs.Answered.{mid_stop, native_then}
use Rattle.dj_image_step.proofs.natives.call_method.Goals as goal

pub settle_answer-requires-clause-is : goal.settle_answer-requires-clause-is
settle_answer-requires-clause-is g c =
    let image = c.args.image.now in
    let calls = subst (λ (r : Running). CallsNative image c.requires.called.0 r.parts.frames r.parts.store.heap c.args.id c.args.count) (sym c.run.view_is) c.requires.called.1 in
    mid_stop image c.requires.called.0 c.run.inside.frames c.run.inside.heap c.answer_of.new.heap c.run.inside.accounter c.answer_of.new.accounter (given_since (g.H.Host.given c.args.host.now) (g.H.Host.given c.answer_of.new.host)) c.args.id c.args.count c.in_ok-answer.answer calls
    (subst (λ (args : List Value). AnswersNative image c.run.inside.heap c.answer_of.new.heap c.run.inside.accounter c.answer_of.new.accounter (given_since (g.H.Host.given c.args.host.now) (g.H.Host.given c.answer_of.new.host)) c.args.id args c.in_ok-answer.answer)
    (c.as_slice.ensures.value ∙ c.in_ok-copy_operands.ensures) c.in_ok-answer.ensures.answers)
    c.run.inside.stop (subst (λ (r : Running). IsStop image r.parts.store.heap r.stop) (sym c.run.view_is) c.requires.stop)

pub returns-clause-turns : goal.returns-clause-turns
returns-clause-turns g c = λ i calls.
    let image = c.args.image.now in
    let after : Running = record {
      parts = parts c.run.inside.flags (store c.settle_answer.new.heap c.run.inside.statics c.run.inside.literals) c.settle_answer.new.frames;
      counter = c.answer_of.new.accounter;
      stop = c.settle_answer.new.stop;
    } in
    subst (λ (r : Running). IfOk c.settle_answer.result (TurnsBy image (doing image i) r after (given_since (g.H.Host.given c.args.host.now) (g.H.Host.given c.answer_of.new.host)))) c.run.view_is
    (native_then image i c.run.inside.flags c.run.inside.statics c.run.inside.literals c.run.inside.heap c.answer_of.new.heap c.settle_answer.new.heap c.run.inside.accounter c.answer_of.new.accounter
    c.run.inside.stop c.settle_answer.new.stop (given_since (g.H.Host.given c.args.host.now) (g.H.Host.given c.answer_of.new.host)) c.args.id c.args.count c.in_ok-answer.answer c.drop_operands.new.frames c.settle_answer.new.frames c.run.inside.frames c.settle_answer.result
    (subst (λ (r : Running). 0 < length r.parts.frames) (sym c.run.view_is) c.requires.some) (subst (IsStill image) (sym c.run.view_is) c.requires.still)
    (subst (λ (r : Running). CallsNative image i r.parts.frames r.parts.store.heap c.args.id c.args.count) (sym c.run.view_is) calls)
    (subst (λ (args : List Value). AnswersNative image c.run.inside.heap c.answer_of.new.heap c.run.inside.accounter c.answer_of.new.accounter (given_since (g.H.Host.given c.args.host.now) (g.H.Host.given c.answer_of.new.host)) c.args.id args c.in_ok-answer.answer)
    (c.as_slice.ensures.value ∙ c.in_ok-copy_operands.ensures) c.in_ok-answer.ensures.answers)
    c.drop_operands.ensures.rest c.drop_operands.ensures.operands
    (subst (λ (e : Option Charge). IfOk c.settle_answer.result (NativeSettles image e c.args.id (arguments_in c.run.inside.frames c.args.count) c.in_ok-answer.answer c.answer_of.new.heap c.settle_answer.new.heap c.drop_operands.new.frames c.settle_answer.new.frames))
    c.exceeded-charge.ensures
    (subst (λ (args : List Value). IfOk c.settle_answer.result (NativeSettles image c.exceeded-charge.result c.args.id args c.in_ok-answer.answer c.answer_of.new.heap c.settle_answer.new.heap c.drop_operands.new.frames c.settle_answer.new.frames))
    (c.as_slice-2.ensures.value ∙ c.in_ok-copy_operands.ensures) c.settle_answer.ensures.settles))
    c.settle_answer.ensures.is)
