use Rattle.std.proofs.Common.{get_or, refl, arith}
use Rattle.std.proofs.lemmas.List.{get_or_default}
use Rattle.dj_member_index.specs.declared.rows.MemberRow.{MemberRow}
use Rattle.dj_member_index.proofs.CallLaws.{all_of, no_row, none_of, one_of}
use Rattle.dj_member_index.proofs.calls.firsts_of.Goals as goal

pub unreachable-requires : goal.unreachable-requires
unreachable-requires c =
    let none : MemberRow = record { name = 0; desc = 0; class = 0; place = 0 } in
    let row : MemberRow = get_or c.args.places.now c.loop-row.row-index none in
    no_row c.args.rows.now row c.in_default.ensures (c.requires.within row (c.loop-row.row-index, c.loop-row-test.true, get_or_default c.args.places.now c.loop-row.row-index row none c.loop-row-test.true))

pub loop-row-init : goal.loop-row-init
loop-row-init c = none_of c.args.rows.now c.args.places.now c.new-firsts.result.items c.new-firsts.ensures.items

pub loop-row-preserved : goal.loop-row-preserved
loop-row-preserved c =
    let none : MemberRow = record { name = 0; desc = 0; class = 0; place = 0 } in
    one_of c.args.rows.now c.args.places.now c.loop-row.row-index c.in-Some.first c.loop-row.firsts.items c.push.new.self.items (get_or c.args.places.now c.loop-row.row-index none) c.loop-row.invariant refl c.in-Some.ensures c.in_ok-push.ensures.items

pub returns : goal.returns
returns c = all_of c.args.rows.now c.args.places.now c.loop-row.row-index c.loop-row.firsts.items c.loop-row.invariant (omega (arith, c.loop-row-test.false, c.loop-row.auto.row-index-end))
