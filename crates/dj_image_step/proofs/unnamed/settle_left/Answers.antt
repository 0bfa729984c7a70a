use Rattle.std.proofs.Common.{Option, subst, sym}
use Rattle.std.specs.Prelude.{IfOk}
use Rattle.dj_names.specs.declared.run.Charge.{Charge}
use Rattle.dj_initialisation.specs.Preparing.{parts}
use Rattle.dj_initialisation.specs.Store.{store}
use Rattle.dj_image_effects.specs.declared.begun.Begun.TheVariants as begins
use Rattle.dj_image_step.specs.Begun.{IsBegun, IsLeft}
use Rattle.dj_image_step.specs.Running.{Running}
use Rattle.dj_image_step.specs.Doing.{ActedSettles}
use Rattle.dj_image_step.proofs.BegunLaws.{begun_known, begun_ready, begun_some, begun_stand, left_frugal, left_then}
use Rattle.dj_image_step.proofs.ShortTables.{are_short}
use Rattle.dj_image_step.proofs.unnamed.settle_left.Goals as goal

pub settle_acted-requires-clause-stand : goal.settle_acted-requires-clause-stand
settle_acted-requires-clause-stand c =
    begun_stand c.args.image.now _ c.args.acted (subst (λ (r : Running). IsBegun c.args.image.now r (begins.Left c.args.acted)) (sym c.run.view_is) c.requires.left)

pub settle_acted-requires-clause-some : goal.settle_acted-requires-clause-some
settle_acted-requires-clause-some c =
    begun_some c.args.image.now _ c.args.acted (subst (λ (r : Running). IsBegun c.args.image.now r (begins.Left c.args.acted)) (sym c.run.view_is) c.requires.left)

pub settle_acted-requires-clause-known : goal.settle_acted-requires-clause-known
settle_acted-requires-clause-known c =
    begun_known c.args.image.now _ c.args.acted (subst (λ (r : Running). IsBegun c.args.image.now r (begins.Left c.args.acted)) (sym c.run.view_is) c.requires.left)

pub settle_acted-requires-clause-ready : goal.settle_acted-requires-clause-ready
settle_acted-requires-clause-ready c =
    begun_ready c.args.image.now c.requires.kept.sound _ c.args.acted (subst (λ (r : Running). IsBegun c.args.image.now r (begins.Left c.args.acted)) (sym c.run.view_is) c.requires.left)

pub returns-clause-frugal : goal.returns-clause-frugal
returns-clause-frugal c = λ first running left needs.
    let r : Running = record { parts = parts c.run.inside.flags (store c.run.inside.heap c.run.inside.statics c.run.inside.literals) c.run.inside.frames; counter = c.run.inside.accounter; stop = c.run.inside.stop } in
    let own : IsLeft c.args.image.now first r c.args.acted = subst (λ (old : Running). IsLeft c.args.image.now first old c.args.acted) (sym c.run.view_is) left in
    c.settle_acted.ensures.frugal (left_frugal c.args.image.now c.requires.kept.sound (are_short c.args.image.now c.requires.kept.bounded) first r c.args.acted running own needs)

pub returns-clause-turns : goal.returns-clause-turns
returns-clause-turns c = λ first running left.
    let r : Running = record { parts = parts c.run.inside.flags (store c.run.inside.heap c.run.inside.statics c.run.inside.literals) c.run.inside.frames; counter = c.run.inside.accounter; stop = c.run.inside.stop } in
    let own : IsLeft c.args.image.now first r c.args.acted = subst (λ (old : Running). IsLeft c.args.image.now first old c.args.acted) (sym c.run.view_is) left in
    left_then c.args.image.now first r c.args.acted c.settle_acted.new.heap c.settle_acted.new.frames c.settle_acted.result running own
    (subst (λ (e : Option Charge). IfOk c.settle_acted.result (ActedSettles c.args.image.now e c.args.acted c.run.inside.heap c.settle_acted.new.heap c.run.inside.frames c.settle_acted.new.frames))
    c.exceeded-charge.ensures c.settle_acted.ensures.settles)
