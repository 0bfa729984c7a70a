use Rattle.std.proofs.Common.{Some, refl, sym, subst, ◌∙◌}
use Rattle.dj_resolution.specs.Linked.{class_name}
use Rattle.dj_image.specs.Imaged.{program_of}
use Rattle.dj_invocation.specs.declared.answers.Invoked.{Invoked}
use Rattle.dj_invocation.specs.Invoking.{site, Invokes}
use Rattle.dj_invocation.proofs.Bodies.{none_of}
use Rattle.dj_invocation.proofs.Invocations.{absent, method_runs, null_goes, link_goes}
use Rattle.dj_invocation.proofs.invoking.invoke_on.Goals as goal

pub returns-in_default : goal.returns-in_default
returns-in_default c = λ called m resolved kinds e other found there kinds_are n fits. (
  absent (site c.args.image.now c.args.frames.now c.args.heap.now.heap called (class_name (program_of c.args.image.now) c.args.own) m) resolved kinds c.args.count n found kinds_are fits (λ static. other (sym e ∙ static))
      (sym c.receiver.ensures.receiver ∙ none_of c.receiver.result c.in_default.not-Some),
  refl,
)

pub choose-requires-clause-object : goal.choose-requires-clause-object
choose-requires-clause-object c = c.is_there.ensures c.if-not-is_there.false

pub returns-in_ok-invoked-in-Method : goal.returns-in_ok-invoked-in-Method
returns-in_ok-invoked-in-Method c = λ called m resolved kinds e other found there kinds_are n fits.
    let t = method_runs (site c.args.image.now c.args.frames.now c.args.heap.now.heap called (class_name (program_of c.args.image.now) c.args.own) m) resolved kinds c.args.count n found kinds_are fits
    (λ static. other (sym e ∙ static)) c.in-Some.r c.in-Method.found c.in-Some.ensures.receiver (c.in-Method.ensures.chosen called m resolved e found there) in
    c.in_ok-invoked-in-Method.ensures called (class_name (program_of c.args.image.now) c.args.own) m t.method t.there t.runs

pub returns-in-Null : goal.returns-in-Null
returns-in-Null c = λ called m resolved kinds e other found there kinds_are n fits.
    subst (λ (x : Invoked). Invokes (site c.args.image.now c.args.frames.now c.args.heap.now.heap called (class_name (program_of c.args.image.now) c.args.own) m) c.give_up.new.frames (Some x))
    (sym c.give_up.ensures.invoked)
    (null_goes (site c.args.image.now c.args.frames.now c.args.heap.now.heap called (class_name (program_of c.args.image.now) c.args.own) m) resolved kinds c.args.count n found kinds_are fits
    (λ static. other (sym e ∙ static)) c.in-Some.r c.give_up.new.frames c.in-Some.ensures.receiver (c.in-Null.ensures.chosen called m resolved e found there) c.give_up.ensures.frames)

pub returns-in-Link : goal.returns-in-Link
returns-in-Link c = λ called m resolved kinds e other found there kinds_are n fits.
    subst (λ (x : Invoked). Invokes (site c.args.image.now c.args.frames.now c.args.heap.now.heap called (class_name (program_of c.args.image.now) c.args.own) m) c.give_up-in-Link.new.frames (Some x))
    (sym c.give_up-in-Link.ensures.invoked)
    (link_goes (site c.args.image.now c.args.frames.now c.args.heap.now.heap called (class_name (program_of c.args.image.now) c.args.own) m) resolved kinds c.args.count n found kinds_are fits
    (λ static. other (sym e ∙ static)) c.in-Some.r c.give_up-in-Link.new.frames c.in-Some.ensures.receiver (c.in-Link.ensures.chosen called m resolved e found there) c.give_up-in-Link.ensures.frames)
