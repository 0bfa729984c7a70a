use Rattle.std.proofs.Common.{subst, sym}
use Rattle.dj_model.specs.Standing.{AsksNothing}
use Rattle.dj_image.specs.Imaged.{program_of}
use Rattle.dj_image_step.specs.Memory.{NeedsNoMemory}
use Rattle.dj_step.specs.Machines.{Machined, terms_of}
use Rattle.dj_step.proofs.StepLaws.{needs_of}
use Rattle.dj_step.proofs.machine.Machine.step.Goals as goal

-- the machine's image is the one that is stepped
pub returns-in_default-end_turn-clause-quiet : goal.returns-in_default-end_turn-clause-quiet
returns-in_default-end_turn-clause-quiet g c = λ quiet. c.end_turn.ensures.quiet (subst (λ (m : Machined). AsksNothing (program_of m.image)) (sym c.self.view_is) quiet)

pub returns-in-Went-settled-clause-quiet : goal.returns-in-Went-settled-clause-quiet
returns-in-Went-settled-clause-quiet g c = λ quiet. c.end_turn.ensures.quiet (subst (λ (m : Machined). AsksNothing (program_of m.image)) (sym c.self.view_is) quiet)

pub returns-in-Ended-clause-quiet : goal.returns-in-Ended-clause-quiet
returns-in-Ended-clause-quiet g c = λ quiet. c.end_turn.ensures.quiet (subst (λ (m : Machined). AsksNothing (program_of m.image)) (sym c.self.view_is) quiet)

-- and its run needs as little
pub returns-in_default-end_turn-clause-frugal : goal.returns-in_default-end_turn-clause-frugal
returns-in_default-end_turn-clause-frugal g c = λ going needs is.
    c.in_default-end_turn.ensures.frugal (c.begin_turn-begun.ensures.frugal
    (needs_of c.self.inside.image.now c.self.inside.heap_limit c.self.inside.limits c.self.inside.tables c.self.inside.run c.self.inside.outcome c.self.inside.failed c.self.invariant c.if-self.false
    (subst (λ (m : Machined). NeedsNoMemory (program_of m.image) m.image.prefix (terms_of m) m.state) (sym c.self.view_is) needs)))
