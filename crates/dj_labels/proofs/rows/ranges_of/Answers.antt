use Rattle.std.proofs.Common.{◌<◌, length, arith}
use Rattle.std.proofs.lemmas.Option.{slice_get-get_or}
use Rattle.dj_labels.proofs.RowLaws.{row_fault}
use Rattle.dj_labels.proofs.rows.ranges_of.Goals as goal

pub returns-in_default-clause-refused : goal.returns-in_default-clause-refused
returns-in_default-clause-refused c =
    let within : c.loop-i.i < length c.args.rows.now = omega (arith, c.loop-i-test.true) in
    row_fault c.args.table.now.starts.items c.args.size c.args.rows.now c.loop-i.ranges c.loop-i.i _ c.requires.rising c.loop-i.invariant (slice_get-get_or c.args.rows.now c.loop-i.i _ within) c.in_default.ensures.none
