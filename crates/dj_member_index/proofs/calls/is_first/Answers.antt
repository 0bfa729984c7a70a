use Rattle.dj_member_index.proofs.CallLaws.{first_or_not, not_first}
use Rattle.dj_member_index.proofs.calls.is_first.Goals as goal

pub returns-in_default : goal.returns-in_default
returns-in_default c = not_first c.args.rows.now c.args.row c.in_default.ensures

pub returns : goal.returns
returns c = first_or_not c.args.rows.now c.args.row c.in-Some.first c.in-Some.ensures
