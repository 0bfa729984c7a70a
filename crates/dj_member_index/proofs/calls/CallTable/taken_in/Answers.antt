use Rattle.dj_member_index.proofs.CallLaws.{taken_reported}
use Rattle.dj_member_index.proofs.calls.CallTable.taken_in.Goals as goal

pub returns : goal.returns
returns c =
    taken_reported c.args.table.now c.args.self.now c.requires.table c.args.private_too c.args.class c.args.member c.in_ok-row.row c.taken.result.now c.args.other c.place_in.result c.in_ok-row.ensures.some c.taken.ensures c.place_in.ensures
