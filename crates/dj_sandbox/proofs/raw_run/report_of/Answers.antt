use Rattle.dj_sandbox.proofs.RunLaws.{unstopped_status}
use Rattle.dj_sandbox.proofs.raw_run.report_of.Goals as goal

pub returns-clause-status : goal.returns-clause-status
returns-clause-status c = unstopped_status c.args.ending.outcome c.requires
