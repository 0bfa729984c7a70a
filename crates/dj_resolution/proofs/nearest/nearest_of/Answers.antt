use Rattle.std.proofs.Common.{◌+◌, Some, get_or, subst, sym}
use Rattle.std.proofs.lemmas.List.{get_or_default}
use Rattle.dj_model.specs.trusted.Linking.{most_classes}
use Rattle.dj_member_index.specs.declared.rows.MemberRow.{MemberRow}
use Rattle.dj_resolution.specs.Nearest.{IsNearest}
use Rattle.dj_resolution.specs.Numbers.{numbers_up}
use Rattle.dj_resolution.proofs.Nearing.{one_more}
use Rattle.dj_resolution.proofs.nearest.nearest_of.Goals as goal

pub loop-row-preserved : goal.loop-row-preserved
loop-row-preserved c =
    let none : MemberRow = record { name = 0; desc = 0; class = 0; place = 0 } in
    let row : MemberRow = get_or c.args.rows.now c.loop-row.row-index none in
    subst (IsNearest (numbers_up most_classes c.args.table.now (Some c.args.class)) c.args.ranks.now.ranks.items c.args.rows.now (c.loop-row.row-index + 1)) (sym c.nearer-nearest.ensures)
    (one_more (numbers_up most_classes c.args.table.now (Some c.args.class)) c.args.ranks.now.ranks.items c.args.rows.now c.loop-row.row-index row c.loop-row.nearest c.with_rank.result c.loop-row-test.true
    (get_or_default c.args.rows.now c.loop-row.row-index row none c.loop-row-test.true) c.loop-row.invariant c.with_rank.ensures)
