use Rattle.dj_hierarchy_rule.specs.trusted.Hierarchy.{Climbs}
use Rattle.dj_hierarchy_rule.specs.Known.{IsIn}
use Rattle.dj_hierarchy_rule.specs.Views.{text_of}
use Rattle.std.proofs.Common.{List, ℕ, take}
use Rattle.dj_hierarchy_rule.proofs.Anys.{IsAny}
use Rattle.dj_hierarchy_rule.proofs.judge.has_interface_back.Given as goal

-- none so far
abbrev pub invariant-loop-name : goal.invariant-loop-name
invariant-loop-name l = IsAny text_of (λ (above : List ℕ). Climbs (IsIn l.hierarchy) above l.head.name.now) (take l.name-index l.name-items) → ⊥
