use Rattle.std.proofs.Common.{take}
use Rattle.dj_kind_trees.specs.Forests.{KeepsTrees}
use Rattle.dj_kind_lists.specs.Ranges.{AreLeft}
use Rattle.dj_kind_lists.proofs.ranges.left_over.Given as goal

abbrev pub invariant-loop-range : goal.invariant-loop-range
invariant-loop-range l = record {
  keeps : KeepsTrees l.initial.trees l.trees;
  left : AreLeft l.initial.trees l.search.states.now l.search.frames.now l.part.height l.part.from (take l.range-index l.ranges) l.rest.items;
}
