use Rattle.std.proofs.Common.{◌+◌, take, length, arith}
use Rattle.dj_labels.specs.declared.labelled.Protected.{Protected}
use Rattle.dj_emit.specs.Parts.{groups_seen}
use Rattle.dj_emit.specs.Filed.{rows_of}
use Rattle.dj_emit.proofs.RowCounts.{rows_more, rows_within}
use Rattle.dj_emit.proofs.row_counts.has_few_rows.Goals as goal

pub returns-then-count-gt-MOST_ROWS : goal.returns-then-count-gt-MOST_ROWS
returns-then-count-gt-MOST_ROWS c =
    let gs = groups_seen c.args.parts.now in
    let k = c.loop-range.range-index in
    let none : Protected = record { start = 0; end = 0; handler = 0; catch_type = 0 } in
    let more = rows_more gs c.args.ranges.now k none c.loop-range-test.true in
    let all = rows_within gs c.args.ranges.now (k + 1) in
    (λ never_so. absurd cc, λ few. absurd (omega (arith, few, more, all, c.piece_count-count.ensures.is, c.loop-range.invariant.here, c.if-count-gt-MOST_ROWS.true)))
