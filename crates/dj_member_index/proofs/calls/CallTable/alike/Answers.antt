use Rattle.dj_member_index.proofs.CallLaws.{alike_reported}
use Rattle.dj_member_index.proofs.calls.CallTable.alike.Goals as goal

pub returns : goal.returns
returns c =
    alike_reported c.args.table.now c.args.self.now c.requires c.args.private_too c.args.class c.args.member c.in_ok-row.row c.taken.result.now c.rows_with.result.now c.in_ok-row.ensures.some c.taken.ensures
    c.class_count.ensures.few c.rows_with.ensures
