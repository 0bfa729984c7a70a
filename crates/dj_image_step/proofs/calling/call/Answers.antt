use Rattle.std.proofs.Common.{◌≡◌, ◌<◌, length, sym, subst}
use Rattle.std.specs.Prelude.{IfOk}
use Rattle.dj_model.specs.trusted.Instructions.{Invoke}
use Rattle.dj_stack.specs.Frames.{top_method}
use Rattle.dj_resolution.specs.Linked.{class_name}
use Rattle.dj_host.specs.trusted.Hosted.{given_since}
use Rattle.dj_image.specs.Imaged.{program_of}
use Rattle.dj_current_method.specs.Activations.{declared_at}
use Rattle.dj_initialisation.specs.Preparing.{parts}
use Rattle.dj_initialisation.specs.Store.{store}
use Rattle.dj_invocation.specs.Natives.{AreNatives}
use Rattle.dj_settling.specs.Settling.{IsStop}
use Rattle.dj_image_step.specs.Running.{Kept, Running}
use Rattle.dj_image_step.specs.Doing.{IsStill, TurnsBy, doing}
use Rattle.dj_image_step.proofs.Called.{invoked_begun}
use Rattle.dj_image_step.proofs.calling.call.Goals as goal

pub invoke-requires-clause-natives : goal.invoke-requires-clause-natives
invoke-requires-clause-natives g c = subst (λ (t : Kept). AreNatives c.args.image.now t.natives) (sym c.tables.view_is) c.requires.kept.natives

pub settle_call-requires-clause-invoked : goal.settle_call-requires-clause-invoked
settle_call-requires-clause-invoked g c =
    let image = c.args.image.now in
    let v : Running = record { parts = parts c.run.inside.flags (store c.run.inside.heap c.run.inside.statics c.run.inside.literals) c.run.inside.frames; counter = c.run.inside.accounter; stop = c.run.inside.stop } in
    let k = c.requires.called in (
      v.parts.frames,
      k.0,
      k.1,
      (invoked_begun image k.0 k.1 c.args.own v c.invoke.new.frames c.in_ok-invoked.invoked c.in-Some.invoked c.in-Some.is
          (subst (λ (r : Running). class_name (program_of image) c.args.own ≡ (declared_at (program_of image) (top_method r.parts.frames)).class) (sym c.run.view_is) c.requires.named)
          (subst (λ (r : Running). 0 < length r.parts.frames) (sym c.run.view_is) c.requires.some) (subst (IsStill image) (sym c.run.view_is) c.requires.still)
          (subst (λ (r : Running). IsStop image r.parts.store.heap r.stop) (sym c.run.view_is) c.requires.stop)
          (c.in_ok-invoked.ensures k.0 k.1 k.2 k.3 k.4 k.5 k.6)),
    )

pub returns-clause-turns : goal.returns-clause-turns
returns-clause-turns g c = λ called m resolved mode resolves method kinds.
    let image = c.args.image.now in
    let v : Running = record { parts = parts c.run.inside.flags (store c.run.inside.heap c.run.inside.statics c.run.inside.literals) c.run.inside.frames; counter = c.run.inside.accounter; stop = c.run.inside.stop } in
    subst (λ (r : Running). IfOk c.settle_call.result (TurnsBy image (doing image (Invoke called m)) r c.settle_call.new.run (given_since (g.H.Host.given c.args.host.now) (g.H.Host.given c.settle_call.new.host))))
    c.run.view_is (c.settle_call.ensures.turns v.parts.frames called m (invoked_begun image called m c.args.own v c.invoke.new.frames c.in_ok-invoked.invoked c.in-Some.invoked c.in-Some.is
    (subst (λ (r : Running). class_name (program_of image) c.args.own ≡ (declared_at (program_of image) (top_method r.parts.frames)).class) (sym c.run.view_is) c.requires.named)
    (subst (λ (r : Running). 0 < length r.parts.frames) (sym c.run.view_is) c.requires.some) (subst (IsStill image) (sym c.run.view_is) c.requires.still)
    (subst (λ (r : Running). IsStop image r.parts.store.heap r.stop) (sym c.run.view_is) c.requires.stop)
    (c.in_ok-invoked.ensures called m resolved mode resolves method kinds)))
