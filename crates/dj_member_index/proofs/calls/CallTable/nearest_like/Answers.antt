use Rattle.dj_member_index.proofs.CallLaws.{marked_is, nearest_instance, nearest_plain}
use Rattle.dj_member_index.proofs.calls.CallTable.nearest_like.Goals as goal

pub nearest-requires : goal.nearest-requires
nearest-requires c = (marked_is c.args.table.now c.args.self.now c.requires c.in-Some.marked c.in-Some.is).instance_are.marks_are.order

pub returns-then-private_too : goal.returns-then-private_too
returns-then-private_too c =
    nearest_instance c.args.table.now c.args.self.now c.requires c.args.class c.args.member c.args.below c.start-start.result c.in_ok-row.row c.in-Some.marked c.nearest.result c.args.private_too c.if-private_too.true
    c.in_ok-row.ensures.some
    (marked_is c.args.table.now c.args.self.now c.requires c.in-Some.marked c.in-Some.is) c.start-start.ensures c.nearest.ensures

pub returns-else-private_too : goal.returns-else-private_too
returns-else-private_too c =
    nearest_plain c.args.table.now c.args.self.now c.requires c.args.class c.args.member c.args.below c.start-start.result c.in_ok-row.row c.in-Some.marked c.nearest-else-private_too.result c.args.private_too c.if-private_too.false
    c.in_ok-row.ensures.some
    (marked_is c.args.table.now c.args.self.now c.requires c.in-Some.marked c.in-Some.is) c.start-start.ensures c.nearest-else-private_too.ensures
