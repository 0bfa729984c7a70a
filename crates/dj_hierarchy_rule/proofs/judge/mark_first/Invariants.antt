use Rattle.dj_hierarchy_rule.specs.Judged.{AreMarks}
use Rattle.dj_hierarchy_rule.specs.Known.{heads_of}
use Rattle.dj_hierarchy_rule.proofs.judge.mark_first.Given as goal

-- the marks so far
abbrev pub invariant-loop-place : goal.invariant-loop-place
invariant-loop-place l = AreMarks (heads_of l.hierarchy) l.place l.marks.items
