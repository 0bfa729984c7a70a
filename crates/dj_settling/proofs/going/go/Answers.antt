use Rattle.std.proofs.Common.{subst}
use Rattle.dj_settling.specs.Frugal.{IsFrugal}
use Rattle.dj_settling.proofs.going.go.Goals as goal

pub returns-in-Next-clause-frugal : goal.returns-in-Next-clause-frugal
returns-in-Next-clause-frugal c = λ frugal. c.go_next.ensures.frugal (subst (IsFrugal c.args.frames.now) c.in-Next.is frugal)

pub returns-in-To-clause-frugal : goal.returns-in-To-clause-frugal
returns-in-To-clause-frugal c = λ frugal. c.go_to.ensures.frugal (subst (IsFrugal c.args.frames.now) c.in-To.is frugal)

pub returns-in-Raise-clause-frugal : goal.returns-in-Raise-clause-frugal
returns-in-Raise-clause-frugal c = λ frugal. absurd (subst (IsFrugal c.args.frames.now) c.in-Raise.is frugal)

pub returns-in-Back-clause-frugal : goal.returns-in-Back-clause-frugal
returns-in-Back-clause-frugal c = λ frugal. c.give_back.ensures.frugal (subst (IsFrugal c.args.frames.now) c.in-Back.is frugal)
