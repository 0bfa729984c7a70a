use Rattle.std.proofs.Common.{subst}
use Rattle.dj_names.specs.declared.run.Outcome.TheVariants as outcomes
use Rattle.dj_settling.specs.declared.settled.Settled.TheVariants as settles
use Rattle.dj_image_step.specs.Doing.{PreparesNext, stepping}
use Rattle.dj_image_step.proofs.Prepared.{deep_turns, full_turns, ready_running, ready_then, waits_turns}
use Rattle.dj_image_step.proofs.Performed.{none_turns}
use Rattle.dj_image_step.proofs.SoundRuns.{still_frugal}
use Rattle.dj_image_step.proofs.turning.take_step.Goals as goal

pub perform-requires-clause-running : goal.perform-requires-clause-running
perform-requires-clause-running g c = ready_running _ _ _ c.requires.running (subst (PreparesNext _ _ _) c.in-Ready.is c.in_ok-prepare.ensures.prepares)

pub returns-in-Ready-clause-turns : goal.returns-in-Ready-clause-turns
returns-in-Ready-clause-turns g c = ready_then _ _ _ _ _ _ _ c.requires.running c.in_ok-prepare.ensures.prepares c.in-Ready.is c.perform.ensures.turns

pub returns-in-Waits-clause-turns : goal.returns-in-Waits-clause-turns
returns-in-Waits-clause-turns g c =
    none_turns c.args.image.now (stepping c.args.image.now) c.args.run.now c.prepare.new.run (g.H.Host.given c.args.host.now) settles.Went
    (waits_turns c.args.image.now c.args.run.now c.prepare.new.run _ c.requires.running c.in_ok-prepare.ensures.prepares c.in-Waits.is)

pub returns-in-TooDeep-clause-turns : goal.returns-in-TooDeep-clause-turns
returns-in-TooDeep-clause-turns g c =
    none_turns c.args.image.now (stepping c.args.image.now) c.args.run.now c.prepare.new.run (g.H.Host.given c.args.host.now) (settles.Ended outcomes.TooDeep)
    (deep_turns c.args.image.now c.args.run.now c.prepare.new.run _ c.requires.running c.in_ok-prepare.ensures.prepares c.in-TooDeep.is)

pub returns-in-HeapFull-clause-turns : goal.returns-in-HeapFull-clause-turns
returns-in-HeapFull-clause-turns g c =
    none_turns c.args.image.now (stepping c.args.image.now) c.args.run.now c.prepare.new.run (g.H.Host.given c.args.host.now) (settles.Ended (outcomes.HeapFull c.in-HeapFull.used c.in-HeapFull.size))
    (full_turns c.args.image.now c.args.run.now c.prepare.new.run _ c.in-HeapFull.used c.in-HeapFull.size c.requires.running c.in_ok-prepare.ensures.prepares c.in-HeapFull.is)

pub returns-in-Ready-clause-frugal : goal.returns-in-Ready-clause-frugal
returns-in-Ready-clause-frugal g c = λ n.
    c.perform.ensures.frugal (still_frugal c.args.image.now c.args.run.now c.prepare.new.run n (subst (PreparesNext _ _ _) c.in-Ready.is c.in_ok-prepare.ensures.prepares))
