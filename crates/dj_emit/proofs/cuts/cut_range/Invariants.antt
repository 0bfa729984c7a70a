use Rattle.std.proofs.Common.{◌≡◌, ◌-◌, ◌≤◌, ◌++◌, map, filter}
use Rattle.dj_groups.specs.Groups.{is_some_range, cut, pieces}
use Rattle.dj_emit.specs.Parts.{groups_seen}
use Rattle.dj_emit.specs.Cuts.{piece}
use Rattle.dj_emit.proofs.cuts.cut_range.Given as goal

abbrev pub invariant-loop-at : goal.invariant-loop-at
invariant-loop-at l = record {
  low : l.k ≤ l.range.end;
  here : l.out ++ map (piece l.handled) (filter is_some_range (cut (groups_seen l.places.groups.items) l.from l.k (l.range.end - l.k)))
      ≡ l.initial.out ++ map (piece l.handled) (pieces (groups_seen l.places.groups.items) l.range.start l.range.end);
}

abbrev pub decreases-loop-at : goal.decreases-loop-at
decreases-loop-at l = l.range.end - l.k
