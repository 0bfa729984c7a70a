use Rattle.std.proofs.Common.{◌≡◌, ◌++◌, map, take, Some}
use Rattle.dj_shape_rule.proofs.judge.add_kinds.Given as goal

abbrev pub invariant-loop-kind : goal.invariant-loop-kind
invariant-loop-kind l = l.entries.items ≡ l.initial.entries.items ++ map (λ kind. Some kind) (take l.kind-index l.kinds)
