use Rattle.std.proofs.Common.{map, take, Contains}
use Rattle.dj_hierarchy_rule.specs.Edges.{GainsPlaces}
use Rattle.dj_hierarchy_rule.specs.Views.{text_of}
use Rattle.dj_hierarchy_rule.proofs.edges.add_names.Given as goal

-- the places of the names so far are gained
abbrev pub invariant-loop-name : goal.invariant-loop-name
invariant-loop-name l = GainsPlaces l.names (Contains (map text_of (take l.name-index l.above))) l.initial.targets.items l.targets.items
