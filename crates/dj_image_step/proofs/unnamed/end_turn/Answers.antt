use Rattle.std.proofs.Common.{subst}
use Rattle.dj_image_step.specs.Begun.{Begins, IsBegun, IsFrugalBegun}
use Rattle.dj_image_step.proofs.BegunLaws.{begun_went, nothing_then, settled_then}
use Rattle.dj_image_step.proofs.unnamed.end_turn.Goals as goal

pub take_step-requires-clause-running : goal.take_step-requires-clause-running
take_step-requires-clause-running g c = subst (IsBegun c.args.image.now c.args.run.now) c.in-Nothing.is c.requires.begun

pub settle_left-requires-clause-left : goal.settle_left-requires-clause-left
settle_left-requires-clause-left g c = subst (IsBegun c.args.image.now c.args.run.now) c.in-Left.is c.requires.begun

pub returns-in-Went-clause-turns : goal.returns-in-Went-clause-turns
returns-in-Went-clause-turns g c = λ first running begins.
    begun_went c.args.image.now first c.args.run.now c.args.begun (g.H.Host.given c.args.host.now) c.in-Went.is begins

pub returns-in-Nothing-clause-turns : goal.returns-in-Nothing-clause-turns
returns-in-Nothing-clause-turns g c = λ first running begins.
    nothing_then c.args.image.now c.args.tables.now first c.args.run.now c.take_step.new.run _ c.take_step.result c.requires.kept running
    (subst (Begins c.args.image.now first c.args.run.now) c.in-Nothing.is begins) c.take_step.ensures.turns

pub returns-in-Left-clause-turns : goal.returns-in-Left-clause-turns
returns-in-Left-clause-turns g c = λ first running begins.
    settled_then c.args.image.now c.args.tables.now first c.settle_left.new.run (g.H.Host.given c.args.host.now) c.settle_left.result c.requires.kept running
    (c.settle_left.ensures.turns first running (subst (Begins c.args.image.now first c.args.run.now) c.in-Left.is begins))

pub returns-in-Nothing-clause-frugal : goal.returns-in-Nothing-clause-frugal
returns-in-Nothing-clause-frugal g c = λ frugal. c.take_step.ensures.frugal (subst (IsFrugalBegun c.args.image.now c.args.run.now) c.in-Nothing.is frugal)

pub returns-in-Left-clause-frugal : goal.returns-in-Left-clause-frugal
returns-in-Left-clause-frugal g c = λ frugal.
    let left = subst (IsFrugalBegun c.args.image.now c.args.run.now) c.in-Left.is frugal in
    c.settle_left.ensures.frugal left.0 left.1 left.2 left.3
