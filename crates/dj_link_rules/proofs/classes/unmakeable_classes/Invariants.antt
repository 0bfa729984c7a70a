use Rattle.std.proofs.Common.{◌≡◌, map, take}
use Rattle.dj_link_rules.specs.Known.{is_unmakeable}
use Rattle.dj_link_rules.proofs.classes.unmakeable_classes.Given as goal

-- the classes so far
abbrev pub invariant-loop-class : goal.invariant-loop-class
invariant-loop-class l = l.marks.items ≡ map is_unmakeable (take l.class l.table)
