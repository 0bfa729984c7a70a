-- Laws of what reaches what.
use Rattle.std.proofs.Common.{◌≡◌, ℕ, List, length, slice_get, Option, Some, None, IsSomeAnd, Contains, refl, sym, subst}
use Rattle.std.proofs.lemmas.Option.{slice_get_read}
use Rattle.dj_graph.specs.Graphs.{Edges, HasEdge, Reaches, Here, Along}
use Rattle.dj_graph.proofs.Lists.{At, contains_at}

pub by_edge : {edges : Edges} {a b : ℕ} → HasEdge edges a b → Reaches edges a b
by_edge edge = Along edge Here

pub then_reaches : {edges : Edges} {a b c : ℕ} → Reaches edges a b → Reaches edges b c → Reaches edges a c
then_reaches Here more = more
then_reaches (Along edge rest) more = Along edge (then_reaches rest more)

-- what no edge leads out of has all that it reaches
pub stays_within : {edges : Edges} {a b : ℕ} (P : ℕ → Type 0) → ((x y : ℕ) → P x → HasEdge edges x y → P y) → Reaches edges a b → P a → P b
stays_within P step Here here = here
stays_within P step (Along edge rest) here = stays_within P step rest (step _ _ here edge)

pub edge_at : (edges : Edges) (a b e : ℕ) (targets : List ℕ) → At edges a targets → At targets e b → HasEdge edges a b
edge_at edges a b e targets node edge = subst (λ found. IsSomeAnd found (λ ts. Contains ts b)) (sym node) (contains_at e targets b edge)

parts_of : (found : Option (List ℕ)) (b : ℕ) → IsSomeAnd found (λ ts. Contains ts b) → (targets : List ℕ) × (e : ℕ) × (found ≡ Some targets) × At targets e b
parts_of None b edge = absurd edge
parts_of (Some targets) b edge = (targets, edge.0, refl, slice_get_read targets (length targets) edge.0 b refl edge.1 (sym edge.2))

pub edge_parts : (edges : Edges) (a b : ℕ) → HasEdge edges a b → (targets : List ℕ) × (e : ℕ) × At edges a targets × At targets e b
edge_parts edges a b edge = parts_of (slice_get edges a) b edge
