use Rattle.dj_hierarchy_rule.specs.trusted.Hierarchy.{IsBadInterface}
use Rattle.dj_hierarchy_rule.specs.Known.{IsIn}
use Rattle.dj_hierarchy_rule.specs.Views.{text_of}
use Rattle.std.proofs.Common.{take}
use Rattle.dj_hierarchy_rule.proofs.Anys.{IsAny}
use Rattle.dj_hierarchy_rule.proofs.judge.has_bad_interface.Given as goal

-- none so far
abbrev pub invariant-loop-name : goal.invariant-loop-name
invariant-loop-name l = IsAny text_of (IsBadInterface (IsIn l.hierarchy)) (take l.name-index l.name-items) → ⊥
