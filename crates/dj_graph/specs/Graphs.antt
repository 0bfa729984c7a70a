-- Graphs, and which of their nodes reach each other.
use Rattle.std.specs.Prelude.{◌≡◌, ℕ, ◌<◌, ◌↔◌, List, map, length, Some, slice_get, IsSomeAnd}
use Rattle.std.specs.List.{All, Contains}
use Rattle.std.specs.Global.{Vec}

-- the targets of each node's edges
abbrev pub Edges : Type 0
Edges = List (List ℕ)

-- there is an edge from a to b
abbrev pub HasEdge : Edges → ℕ → ℕ → Type 0
HasEdge edges a b = IsSomeAnd (slice_get edges a) (λ targets. Contains targets b)

-- b is reached from a by edges, or is a
pub data Reaches (edges : Edges) : ℕ → ℕ → Type 0 where
  Here : {a : ℕ} → Reaches edges a a
  Along : {a b c : ℕ} → HasEdge edges a b → Reaches edges b c → Reaches edges a c

-- two nodes have one number exactly where each reaches the other
pub record AreComponents (edges : Edges) (numbers : List ℕ) : Type 0 where
  pub all : length numbers ≡ length edges
  pub each : (a b m n : ℕ) → slice_get numbers a ≡ Some m → slice_get numbers b ≡ Some n → (m ≡ n) ↔ (Reaches edges a b × Reaches edges b a)

-- each edge leads to a node
abbrev pub IsInside : Edges → Type 0
IsInside edges = All (λ targets. All (λ target. target < length edges) targets) edges

-- the edges as the code holds them
abbrev pub edges_of : List (Vec ℕ) → Edges
edges_of lists = map (λ targets. targets.items) lists
