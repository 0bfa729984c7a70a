use Rattle.std.proofs.Common.{◌≡◌, ◌≤◌, length, take}
use Rattle.dj_emit.specs.Parts.{groups_seen}
use Rattle.dj_emit.specs.Filed.{rows_of}
use Rattle.dj_emit.proofs.row_counts.has_few_rows.Given as goal

abbrev pub invariant-loop-range : goal.invariant-loop-range
invariant-loop-range l = record {
  here : l.count ≡ length (rows_of (groups_seen l.parts) (take l.range-index l.ranges));
  few : l.count ≤ 65535;
}
