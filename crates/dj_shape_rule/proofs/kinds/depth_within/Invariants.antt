use Rattle.std.proofs.Common.{◌≡◌, ◌≤◌, ◌+◌, drop}
use Rattle.dj_model.specs.trusted.Kinds.{depth}
use Rattle.dj_shape_rule.proofs.kinds.depth_within.Given as goal

abbrev pub invariant-loop-kind : goal.invariant-loop-kind
invariant-loop-kind l = record {
  within : l.slots ≤ l.most;
  so_far : l.slots + depth (drop l.kind-index l.stack) ≡ depth l.stack;
}
