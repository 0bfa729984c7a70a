-- The graph of names. A name is represented by the place of one class that has it. An edge leads from a name's place to those of the names directly above its classes.
use Rattle.std.specs.Prelude.{◌≡◌, ◌↔◌, ◌⊎◌, ℕ, List, [], ◌∷◌, ◌++◌, length, Some, Contains, slice_get}
use Rattle.dj_graph.specs.Graphs.{Edges, HasEdge}
use Rattle.dj_library.specs.trusted.Heads.{Head}
use Rattle.dj_hierarchy_rule.specs.trusted.Hierarchy.{IsAbove, Climbs}
use Rattle.dj_hierarchy_rule.specs.Names.{Names, place_of}

-- the place represents a name directly above the class
abbrev pub IsPlaceAbove : Names → Head → ℕ → Type 0
IsPlaceAbove names head place = (above : List ℕ) × IsAbove head above × (place_of names above ≡ Some place)

-- the targets gained exactly the places that represent the names
abbrev pub GainsPlaces : Names → (List ℕ → Type 0) → List ℕ → List ℕ → Type 0
GainsPlaces names IsSuch old new = (target : ℕ) → Contains new target ↔ (Contains old target ⊎ ((name : List ℕ) × IsSuch name × (place_of names name ≡ Some target)))

-- an edge that one of the classes makes
abbrev pub IsMadeEdge : List Head → Names → ℕ → ℕ → Type 0
IsMadeEdge heads names from to = (head : Head) × Contains heads head × (place_of names head.name ≡ Some from) × IsPlaceAbove names head to

-- the edges that the classes make, in a graph of this many nodes
pub record AreEdges (count : ℕ) (heads : List Head) (names : Names) (edges : Edges) : Type 0 where
  pub all : length edges ≡ count
  pub each : (from to : ℕ) → HasEdge edges from to ↔ IsMadeEdge heads names from to

-- the edges gained those that the class makes
abbrev pub GainsEdges : Names → Head → Edges → Edges → Type 0
GainsEdges names head old new = (count : ℕ) (heads : List Head) → AreEdges count heads names old → AreEdges count (heads ++ head ∷ []) names new

-- two names that classes have get the same number exactly where each climbs to the other
pub record AreJoined (heads : List Head) (names : Names) (numbers : List ℕ) : Type 0 where
  pub all : length numbers ≡ length heads
  pub each : (low high : List ℕ) (from to m n : ℕ) → place_of names low ≡ Some from → place_of names high ≡ Some to → slice_get numbers from ≡ Some m → slice_get numbers to ≡ Some n
      → (m ≡ n) ↔ (Climbs (Contains heads) low high × Climbs (Contains heads) high low)
