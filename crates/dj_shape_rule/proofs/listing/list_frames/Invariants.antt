use Rattle.std.proofs.Common.{◌+◌}
use Rattle.dj_shape_rule.specs.Listed.{AreListedBelow, IsLast}
use Rattle.dj_shape_rule.specs.Standing.{SameButLists}
use Rattle.dj_shape_rule.proofs.listing.list_frames.Given as goal

abbrev pub invariant-loop-index : goal.invariant-loop-index
invariant-loop-index l = record {
  same : SameButLists l.initial.state l.state;
  below : AreListedBelow l.frames l.state (l.index + 1);
  last : IsLast l.frames l.state l.index l.last;
}
