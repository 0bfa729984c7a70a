use Rattle.dj_host.specs.trusted.Hosted.{given_since}
use Rattle.dj_machine.proofs.EngineLaws.{ended_on, spent_on}
use Rattle.dj_machine.proofs.plain.run_machine.Goals as goal

pub ending_of-requires : goal.ending_of-requires
ending_of-requires g c = c.in-Ended.ensures.runs.answers.1

pub returns-in-Ended-clause-ran : goal.returns-in-Ended-clause-ran
returns-in-Ended-clause-ran g c =
    ended_on c.args.machine c.run.new.machine (given_since (g.H.Host.given c.args.host.now) (g.H.Host.given c.run.new.host)) c.args.steps c.in-Ended.made c.ending_of.result
    c.requires c.in-Ended.ensures.runs c.ending_of.ensures

pub returns-in-Spent-clause-ran : goal.returns-in-Spent-clause-ran
returns-in-Spent-clause-ran g c =
    spent_on c.args.machine c.run.new.machine (given_since (g.H.Host.given c.args.host.now) (g.H.Host.given c.run.new.host)) c.args.steps c.spent_of.result
    c.requires c.in-Spent.ensures.runs c.spent_of.ensures
