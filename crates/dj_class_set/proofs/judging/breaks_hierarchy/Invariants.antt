use Rattle.std.proofs.Common.{◌<◌, All, take}
use Rattle.dj_class_set.proofs.judging.breaks_hierarchy.Given as goal

-- the lines so far are of later rules
abbrev pub invariant-loop-line : goal.invariant-loop-line
invariant-loop-line l = All (λ v. 6 < v.rule) (take l.line-index l.lines)
