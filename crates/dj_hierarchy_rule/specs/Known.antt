-- All that is known of the classes of a set and of the library.
use Rattle.std.specs.Prelude.{ℕ, List, map, Option, Contains, slice_get, option_and_then}
use Rattle.dj_library.specs.trusted.Heads.{Head}
use Rattle.dj_hierarchy_rule.specs.declared.judge.Hierarchy.{Hierarchy}
use Rattle.dj_hierarchy_rule.specs.Views.{seen_view}
use Rattle.dj_hierarchy_rule.specs.Names.{AreNames, place_of}
use Rattle.dj_hierarchy_rule.specs.Edges.{AreJoined}

abbrev pub heads_of : Hierarchy → List Head
heads_of hierarchy = map seen_view hierarchy.heads.items

-- the classes that are there
abbrev pub IsIn : Hierarchy → Head → Type 0
IsIn hierarchy = Contains (heads_of hierarchy)

-- the number of a name that a class has
abbrev pub number_of : Hierarchy → List ℕ → Option ℕ
number_of hierarchy name = option_and_then (λ place. slice_get hierarchy.numbers.items place) (place_of hierarchy.names name)

-- what is kept of the classes is right
pub record IsHierarchy (hierarchy : Hierarchy) : Type 0 where
  pub names : AreNames (heads_of hierarchy) hierarchy.names
  pub joined : AreJoined (heads_of hierarchy) hierarchy.names hierarchy.numbers.items
