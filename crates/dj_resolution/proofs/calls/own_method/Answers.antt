use Rattle.dj_member_index.specs.Calls.{tests}
use Rattle.dj_resolution.proofs.Calling.{own_reported}
use Rattle.dj_resolution.proofs.calls.own_method.Goals as goal

pub returns : goal.returns
returns c = own_reported c.args.table.now (tests c.args.private_too) c.args.resolved c.args.class c.in_ok-member.member c.in_ok-member.ensures
