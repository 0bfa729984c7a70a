use Rattle.std.proofs.Common.{map, take}
use Rattle.dj_hierarchy_rule.specs.Names.{AreNames}
use Rattle.dj_hierarchy_rule.specs.Views.{seen_view}
use Rattle.dj_hierarchy_rule.proofs.names.names_of.Given as goal

-- what is known of the classes so far
abbrev pub invariant-loop-place : goal.invariant-loop-place
invariant-loop-place l = AreNames (map seen_view (take l.place l.heads)) l.names
