use Rattle.std.proofs.Common.{◌≡◌, ◌-◌, ◌<◌, ◌≤◌, ◌^◌}
use Rattle.dj_kind_trees.specs.Nodes.{size_of}
use Rattle.dj_kind_lists.proofs.ranges.height_for.Given as goal

abbrev pub invariant-loop-size : goal.invariant-loop-size
invariant-loop-size l = record { size_is : l.size ≡ size_of l.height; high : l.height < l.size; few : l.size ≤ 2 ^ 32 }

abbrev pub decreases-loop-size : goal.decreases-loop-size
decreases-loop-size l = l.count - l.size
