use Rattle.std.proofs.Common.{◌≡◌, map, take}
use Rattle.dj_hierarchy_rule.specs.Views.{head_view, seen_view}
use Rattle.dj_hierarchy_rule.proofs.head.see_set.Given as goal

-- the heads so far
abbrev pub invariant-loop-head : goal.invariant-loop-head
invariant-loop-head l = map seen_view l.seen.items ≡ map head_view (take l.head-index l.heads)
