-- Used by the code alone: classes by numbers in a table, and ways upward between them.
use Rattle.std.specs.Prelude.{◌≡◌, ◌<◌, ℕ, ⊤, Bool, true, false, List, map, nat_eq, Option, Some, None, slice_get}
use Rattle.std.specs.List.{list_any}
use Rattle.dj_model.specs.trusted.Program.{Program, Class}
use Rattle.dj_class_table.specs.Tables.{class_numbers, lacks_above}
use Rattle.dj_graph.specs.Graphs.{Edges, HasEdge, Reaches}
use Rattle.dj_loader.specs.declared.error.LoadError.{LoadError}
use Rattle.dj_loader.specs.declared.error.LoadError.TheVariants as errors
use Rattle.dj_loader.specs.Loads.{above_names, LacksAbove, IsOwnAncestor, IsLeast}

-- the numbers of the superclass and of the interfaces that a class lists
abbrev pub above_numbers : Program → Class → List ℕ
above_numbers program c = class_numbers program (above_names c)

-- from each class an edge to each right above it
abbrev pub edges_in : Program → Edges
edges_in program = map (above_numbers program) program

-- a way from a class upward leads back to it
abbrev pub IsOnCycle : Program → ℕ → Type 0
IsOnCycle program k = (above : ℕ) × HasEdge (edges_in program) k above × Reaches (edges_in program) above k

-- a class under one that isn't there
abbrev pub IsLacking : Program → ℕ → Type 0
IsLacking program k = (c : Class) × (slice_get program k ≡ Some c) × (lacks_above program c ≡ true)

-- the first number of which a condition holds
pub record IsFirst (IsSuch : ℕ → Type 0) (k : ℕ) : Type 0 where
  pub such : IsSuch k
  pub first : (j : ℕ) → j < k → IsSuch j → ⊥

abbrev pub NeverSo : (ℕ → Type 0) → Type 0
NeverSo IsSuch = (k : ℕ) → IsSuch k → ⊥

-- a refusal of a table for the one cause, and for the other
abbrev pub RefusesLacking : Program → LoadError → Type 0
RefusesLacking program (errors.NoSuper name) = IsLeast (LacksAbove program) name
RefusesLacking program errors.Memory = ⊤
RefusesLacking program other = ⊥

abbrev pub RefusesCycles : Program → LoadError → Type 0
RefusesCycles program (errors.Cycle name) = IsLeast (IsOwnAncestor program) name
RefusesCycles program errors.Memory = ⊤
RefusesCycles program other = ⊥

abbrev pub IsMemory : LoadError → Type 0
IsMemory e = e ≡ errors.Memory

-- ---- numbers of components

abbrev pub is_own : ℕ → Option ℕ → Bool
is_own own None = false
is_own own (Some number) = nat_eq number own

-- the node has this number
abbrev pub has_number : List ℕ → ℕ → ℕ → Bool
has_number numbers own node = is_own own (slice_get numbers node)

-- an edge leads to a node that has the node's number
abbrev pub LeadsBack : Edges → List ℕ → ℕ → Type 0
LeadsBack edges numbers node =
    (own : ℕ) × (targets : List ℕ) × (slice_get numbers node ≡ Some own) × (slice_get edges node ≡ Some targets) × (list_any (has_number numbers own) targets ≡ true)
