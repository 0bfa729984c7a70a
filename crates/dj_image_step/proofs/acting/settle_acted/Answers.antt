use Rattle.std.proofs.Common.{sym, subst}
use Rattle.dj_names.specs.declared.run.Outcome.TheVariants as outcomes
use Rattle.dj_image_effects.specs.declared.acted.Acted.{Acted}
use Rattle.dj_settling.specs.declared.settled.Settled.TheVariants as settles
use Rattle.dj_settling.proofs.WayLaws.{as_ended}
use Rattle.dj_image_step.specs.Doing.{ActedSettles}
use Rattle.dj_image_step.proofs.acting.settle_acted.Goals as goal

pub returns-in-Link-clause-settles : goal.returns-in-Link-clause-settles
returns-in-Link-clause-settles c =
    subst (λ (a : Acted). ActedSettles c.args.image.now c.args.exceeded a c.args.heap.now c.args.heap.now c.args.frames.now c.args.frames.now (settles.Ended outcomes.Link)) (sym c.in-Link.is)
    (as_ended c.args.image.now c.args.exceeded outcomes.Link c.args.heap.now c.args.frames.now c.requires.some c.requires.known c.requires.stand)

pub returns-in-HeapFull-clause-settles : goal.returns-in-HeapFull-clause-settles
returns-in-HeapFull-clause-settles c =
    let outcome = outcomes.HeapFull c.in-HeapFull.used c.in-HeapFull.size in
    subst (λ (a : Acted). ActedSettles c.args.image.now c.args.exceeded a c.args.heap.now c.args.heap.now c.args.frames.now c.args.frames.now (settles.Ended outcome)) (sym c.in-HeapFull.is)
    (as_ended c.args.image.now c.args.exceeded outcome c.args.heap.now c.args.frames.now c.requires.some c.requires.known c.requires.stand)
