use Rattle.std.proofs.Common.{Contains, get_or}
use Rattle.std.proofs.lemmas.List.{get_or_default}
use Rattle.dj_member_index.specs.declared.rows.MemberRow.{MemberRow}
use Rattle.dj_resolution.proofs.Covering.{method_of_row}
use Rattle.dj_resolution.proofs.sharing.methods_of.Goals as goal

abbrev none : MemberRow
none = record { name = 0; desc = 0; class = 0; place = 0 }

pub method_of-requires-clause-row : goal.method_of-requires-clause-row
method_of-requires-clause-row c =
    let row : MemberRow = get_or c.method_rows-rows.result.now c.loop-at.at none in
    let there : Contains c.method_rows-rows.result.now row = (c.loop-at.at, c.loop-at-test.true, get_or_default c.method_rows-rows.result.now c.loop-at.at row none c.loop-at-test.true) in
    method_of_row c.args.directory.now row (c.method_rows-rows.ensures.there row there) (c.method_rows-rows.ensures.named row there)
