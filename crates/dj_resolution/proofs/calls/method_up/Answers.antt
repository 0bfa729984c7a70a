use Rattle.dj_member_index.specs.Calls.{tests}
use Rattle.dj_resolution.proofs.Calling.{own_first}
use Rattle.dj_resolution.proofs.calls.method_up.Goals as goal

pub returns-in-Some : goal.returns-in-Some
returns-in-Some c = own_first c.args.table.now (tests c.args.private_too) c.args.resolved c.args.class c.in-Some.place c.in-Some.ensures
