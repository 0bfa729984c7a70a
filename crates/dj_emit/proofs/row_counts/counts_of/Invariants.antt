use Rattle.std.proofs.Common.{◌≡◌, ◌≤◌, map}
use Rattle.std.specs.List.{range_with_len}
use Rattle.dj_emit.specs.Parts.{groups_seen}
use Rattle.dj_emit.specs.Filed.{arrivals_from}
use Rattle.dj_emit.proofs.row_counts.counts_of.Given as goal

abbrev pub invariant-loop-part : goal.invariant-loop-part
invariant-loop-part l = record {
  counts : l.counts.items ≡ map (arrivals_from (groups_seen l.parts) 0) (range_with_len 0 l.part-index);
  here : l.count ≡ arrivals_from (groups_seen l.parts) 0 l.part-index;
  low : l.count ≤ l.part-index;
}
