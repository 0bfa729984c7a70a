use Rattle.std.proofs.Common.{reverse, refl, arith, sym, ◌∙◌}
use Rattle.std.proofs.lemmas.List.{length-reverse}
use Rattle.dj_resolution.specs.Linked.{class_name}
use Rattle.dj_stack.specs.Frames.{top_operands}
use Rattle.dj_image.specs.Imaged.{program_of}
use Rattle.dj_invocation.specs.Invoking.{site}
use Rattle.dj_invocation.proofs.OperandFacts.{fit_within}
use Rattle.dj_invocation.proofs.Found.{resolved_described, resolved_own}
use Rattle.dj_invocation.proofs.Sites.{call_not_fit, runs_static}
use Rattle.dj_invocation.proofs.Bodies.{static_mode}
use Rattle.dj_invocation.proofs.References.{known_numbered}
use Rattle.dj_invocation.proofs.invoking.invoke.Goals as goal

pub returns-then-not-fit : goal.returns-then-not-fit
returns-then-not-fit c = λ called m resolved e found there kinds_are. (
  call_not_fit (site c.args.image.now c.args.frames.now c.args.heap.now.heap called (class_name (program_of c.args.image.now) c.args.own) m) resolved c.args.kinds.now found kinds_are
      (sym c.fit.ensures.fits ∙ c.if-not-fit.true),
  refl,
)

pub overflow_cast-count : goal.overflow_cast-count
overflow_cast-count c = let few = c.fit.ensures.few c.if-not-fit.false in omega (arith, few)

pub run_method-requires-clause-numbered : goal.run_method-requires-clause-numbered
run_method-requires-clause-numbered c = known_numbered c.args.image.now c.args.heap.now c.requires.known

pub invoke_on-requires-clause-numbered : goal.invoke_on-requires-clause-numbered
invoke_on-requires-clause-numbered c = known_numbered c.args.image.now c.args.heap.now c.requires.known

pub run_method-requires-clause-taken : goal.run_method-requires-clause-taken
run_method-requires-clause-taken c =
    let within = fit_within (reverse c.args.kinds.now) (top_operands c.args.frames.now) (sym c.fit.ensures.fits ∙ c.if-not-fit.false) in
    let long = length-reverse c.args.kinds.now in
    omega (arith, within, long)

pub returns-in_ok-invoked-in-Static : goal.returns-in_ok-invoked-in-Static
returns-in_ok-invoked-in-Static c = λ called m resolved e found there kinds_are.
    c.in_ok-invoked-in-Static.ensures called (class_name (program_of c.args.image.now) c.args.own) m resolved there
    (runs_static (site c.args.image.now c.args.frames.now c.args.heap.now.heap called (class_name (program_of c.args.image.now) c.args.own) m) resolved c.args.kinds.now found kinds_are
    (static_mode called (e ∙ c.in-Static.is)) (sym c.fit.ensures.fits ∙ c.if-not-fit.false) (resolved_own (program_of c.args.image.now) c.args.image.now.prefix m resolved found) (resolved_described (program_of c.args.image.now) c.args.image.now.prefix m resolved found))
