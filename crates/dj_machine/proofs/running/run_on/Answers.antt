use Rattle.dj_machine.proofs.RunLaws.{ended, quiet_since, spent, went}
use Rattle.dj_machine.proofs.running.run_on.Goals as goal

pub returns-in-Ended-clause-runs : goal.returns-in-Ended-clause-runs
returns-in-Ended-clause-runs g c =
    ended c.args.machine.now c.loop-made.machine c.step.new.self (g.H.Host.given c.args.host.now) (g.H.Host.given c.loop-made.host) (g.H.Host.given c.step.new.host)
    c.args.fuel c.loop-made.made c.loop-made.invariant c.in-Ended.ensures.gave c.requires.on c.loop-made-test.true c.in-Ended.ensures.steps

pub loop-made-preserved : goal.loop-made-preserved
loop-made-preserved g c =
    went c.args.machine.now c.loop-made.machine c.step.new.self (g.H.Host.given c.args.host.now) (g.H.Host.given c.loop-made.host) (g.H.Host.given c.step.new.host)
    c.args.fuel c.loop-made.made c.loop-made.invariant c.in-Went.ensures.gave c.in-Went.ensures.quiet c.loop-made-test.true c.in-Went.ensures.steps

pub returns-clause-runs : goal.returns-clause-runs
returns-clause-runs g c =
    spent c.args.machine.now c.loop-made.machine (g.H.Host.given c.args.host.now) (g.H.Host.given c.loop-made.host)
    c.args.fuel c.loop-made.made c.requires.on c.loop-made.invariant c.loop-made-test.false

pub returns-in-Ended-clause-quiet : goal.returns-in-Ended-clause-quiet
returns-in-Ended-clause-quiet g c = quiet_since c.loop-made.invariant c.in-Ended.ensures.quiet

pub returns-in-Memory-clause-quiet : goal.returns-in-Memory-clause-quiet
returns-in-Memory-clause-quiet g c = quiet_since c.loop-made.invariant c.in-Memory.ensures.quiet

pub returns-clause-quiet : goal.returns-clause-quiet
returns-clause-quiet g c = c.loop-made.invariant.quiet
