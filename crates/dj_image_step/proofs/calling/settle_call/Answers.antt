use Rattle.std.proofs.Common.{[], Option, subst, sym}
use Rattle.dj_host.specs.trusted.Hosted.{given_since}
use Rattle.dj_invocation.specs.declared.answers.Invoked.TheVariants as invoked
use Rattle.dj_settling.specs.Settling.{Settles, raising}
use Rattle.dj_initialisation.specs.Preparing.{parts}
use Rattle.dj_initialisation.specs.Store.{store}
use Rattle.std.specs.Prelude.{IfOk}
use Rattle.dj_names.specs.declared.run.Charge.{Charge}
use Rattle.dj_names.specs.declared.run.Outcome.TheVariants as outcomes
use Rattle.dj_model.specs.trusted.Instructions.{Invoke}
use Rattle.dj_settling.specs.declared.settled.Settled.TheVariants as settles
use Rattle.dj_image_step.specs.Running.{Running}
use Rattle.dj_image_step.specs.Doing.{TurnsBy, doing}
use Rattle.dj_image_step.specs.Calling.{IsInvoked, before}
use Rattle.dj_image_step.proofs.Called.{calls_native, deep_turns, entered_turns, link_turns, native_before, native_given, native_quiet, native_some, native_still, raised_stand, raised_then}
use Rattle.dj_image_step.proofs.Performed.{none_then, none_turns}
use Rattle.dj_image_step.proofs.calling.settle_call.Goals as goal

pub returns-in-Entered-clause-turns : goal.returns-in-Entered-clause-turns
returns-in-Entered-clause-turns g c = λ old called m is.
    none_turns c.args.image.now (doing c.args.image.now (Invoke called m)) (before c.args.run.now old) c.args.run.now (g.H.Host.given c.args.host.now) settles.Went
    (entered_turns c.args.image.now called m c.args.run.now.parts.flags c.args.run.now.parts.store c.args.run.now.counter c.args.run.now.stop old c.args.run.now.parts.frames (subst (IsInvoked c.args.image.now old called m c.args.run.now) c.in-Entered.is is))

pub returns-in-TooDeep-clause-turns : goal.returns-in-TooDeep-clause-turns
returns-in-TooDeep-clause-turns g c = λ old called m is.
    none_turns c.args.image.now (doing c.args.image.now (Invoke called m)) (before c.args.run.now old) c.args.run.now (g.H.Host.given c.args.host.now) (settles.Ended outcomes.TooDeep)
    (deep_turns c.args.image.now called m c.args.run.now.parts.flags c.args.run.now.parts.store c.args.run.now.counter c.args.run.now.stop old c.args.run.now.parts.frames (subst (IsInvoked c.args.image.now old called m c.args.run.now) c.in-TooDeep.is is))

pub returns-in-Link-clause-turns : goal.returns-in-Link-clause-turns
returns-in-Link-clause-turns g c = λ old called m is.
    none_turns c.args.image.now (doing c.args.image.now (Invoke called m)) (before c.args.run.now old) c.args.run.now (g.H.Host.given c.args.host.now) (settles.Ended outcomes.Link)
    (link_turns c.args.image.now called m c.args.run.now.parts.flags c.args.run.now.parts.store c.args.run.now.counter c.args.run.now.stop old c.args.run.now.parts.frames (subst (IsInvoked c.args.image.now old called m c.args.run.now) c.in-Link.is is))

pub returns-in-Raise-clause-turns : goal.returns-in-Raise-clause-turns
returns-in-Raise-clause-turns g c = λ old called m is.
    let image = c.args.image.now in
    let after : Running = record { parts = parts c.run.inside.flags (store c.raise.new.heap c.run.inside.statics c.run.inside.literals) c.raise.new.frames; counter = c.run.inside.accounter; stop = c.run.inside.stop } in
    let raised = subst (λ (r : Running). IsInvoked image old called m r (invoked.Raise c.in-Raise.raised)) (sym c.run.view_is) (subst (IsInvoked image old called m c.args.run.now) c.in-Raise.is is) in
    none_then image (doing image (Invoke called m)) (before c.args.run.now old) after (g.H.Host.given c.args.host.now) c.raise.result
    (subst (λ (r : Running). IfOk c.raise.result (TurnsBy image (doing image (Invoke called m)) (before r old) after [])) c.run.view_is
    (raised_then image called m c.run.inside.flags (store c.run.inside.heap c.run.inside.statics c.run.inside.literals) c.run.inside.accounter c.run.inside.stop old c.run.inside.frames c.raise.new.frames c.raise.new.heap c.in-Raise.raised c.raise.result raised
    (subst (λ (e : Option Charge). IfOk c.raise.result (Settles image e (raising image c.in-Raise.raised) c.run.inside.heap c.raise.new.heap c.run.inside.frames c.raise.new.frames)) c.exceeded.ensures c.raise.ensures)))

pub call_method-requires-clause-called : goal.call_method-requires-clause-called
call_method-requires-clause-called g c =
    let is = c.requires.invoked.3 in
    let native = subst (IsInvoked c.args.image.now c.requires.invoked.0 c.requires.invoked.1 c.requires.invoked.2 c.args.run.now) c.in-Native.is is in (
      Invoke c.requires.invoked.1 c.requires.invoked.2,
      calls_native c.args.image.now c.requires.invoked.1 c.requires.invoked.2 c.args.run.now.parts.flags c.args.run.now.parts.store c.args.run.now.counter c.args.run.now.stop c.requires.invoked.0 c.args.run.now.parts.frames _ _ native,
    )

pub returns-in-Native-clause-turns : goal.returns-in-Native-clause-turns
returns-in-Native-clause-turns g c = λ old called m is.
    let image = c.args.image.now in
    let native = subst (IsInvoked image old called m c.args.run.now) c.in-Native.is is in
    subst (λ (x : Running). IfOk c.call_method.result (TurnsBy image (doing image (Invoke called m)) x c.call_method.new.run (given_since (g.H.Host.given c.args.host.now) (g.H.Host.given c.call_method.new.host))))
    (native_before image called m c.args.run.now.parts.flags c.args.run.now.parts.store c.args.run.now.counter c.args.run.now.stop old c.args.run.now.parts.frames _ _ native)
    (c.call_method.ensures.turns (Invoke called m) (calls_native image called m c.args.run.now.parts.flags c.args.run.now.parts.store c.args.run.now.counter c.args.run.now.stop old c.args.run.now.parts.frames _ _ native))

pub call_method-requires-clause-given : goal.call_method-requires-clause-given
call_method-requires-clause-given g c =
    let k = c.requires.invoked in
    let native = subst (IsInvoked c.args.image.now k.0 k.1 k.2 c.args.run.now) c.in-Native.is k.3 in
    native_given c.args.image.now k.1 k.2 c.args.run.now.parts.flags c.args.run.now.parts.store c.args.run.now.counter c.args.run.now.stop k.0 c.args.run.now.parts.frames _ _ c.requires.sound native

pub returns-in-Native-clause-quiet : goal.returns-in-Native-clause-quiet
returns-in-Native-clause-quiet g c = λ quiet.
    let k = c.requires.invoked in
    let native = subst (IsInvoked c.args.image.now k.0 k.1 k.2 c.args.run.now) c.in-Native.is k.3 in
    c.call_method.ensures.quiet
    (native_quiet c.args.image.now k.1 k.2 c.args.run.now.parts.flags c.args.run.now.parts.store c.args.run.now.counter c.args.run.now.stop k.0 c.args.run.now.parts.frames _ _ quiet native)
