-- What a search through a graph knows at each step.
use Rattle.std.specs.Prelude.{◌≡◌, ℕ, ◌+◌, ◌-◌, ◌*◌, ◌<◌, ◌≤◌, ◌⊎◌, List, [], ◌∷◌, ◌++◌, length, take, drop, set, replicate, Some, slice_get}
use Rattle.dj_graph.specs.declared.mark.NodeMark.{NodeMark}
use Rattle.dj_graph.specs.declared.mark.NodeMark.TheVariants.{Unfound, Open, Closed}
use Rattle.dj_graph.specs.declared.search.Search.{Search}
use Rattle.dj_graph.specs.Graphs.{Edges, HasEdge, Reaches}

-- a's component is known
abbrev pub IsClosed : List NodeMark → ℕ → Type 0
IsClosed marks a = (n : ℕ) × (slice_get marks a ≡ Some (Closed n))

-- each node's component is known
abbrev pub AllClosed : List NodeMark → Type 0
AllClosed marks = (a : ℕ) → a < length marks → IsClosed marks a

-- each number is above those before it
abbrev pub Rises : List ℕ → Type 0
Rises xs = (i j x y : ℕ) → i < j → slice_get xs i ≡ Some x → slice_get xs j ≡ Some y → x < y

-- no component starts after place i of the path, up to place j: where i ≤ j the two are in one component
abbrev pub NoStart : List ℕ → ℕ → ℕ → Type 0
NoStart starts i j = (s x : ℕ) → slice_get starts s ≡ Some x → i < x → x ≤ j → ⊥

-- an edge from place i of the path to b: b's component is known, or b is open, in the component of place i or in one after it
abbrev pub IsSettled : List NodeMark → List ℕ → ℕ → ℕ → Type 0
IsSettled marks starts i b = IsClosed marks b ⊎ ((j : ℕ) × (slice_get marks b ≡ Some (Open j)) × NoStart starts j i)

-- edge e of node a, at place i of the path, is still to be looked at
abbrev pub IsLeft : List ℕ → List ℕ → ℕ → ℕ → ℕ → Type 0
IsLeft looked work i a e = (s x : ℕ) × (slice_get work s ≡ Some i) × (slice_get looked a ≡ Some x) × (x ≤ e)

-- the path has the open nodes, each at its place
pub record IsPath (marks : List NodeMark) (path : List ℕ) : Type 0 where
  pub placed : (i a : ℕ) → slice_get path i ≡ Some a → slice_get marks a ≡ Some (Open i)
  pub listed : (i a : ℕ) → slice_get marks a ≡ Some (Open i) → slice_get path i ≡ Some a

-- an open node reaches each that comes after it, and in one component also each before it
pub record IsLinked (edges : Edges) (path starts : List ℕ) : Type 0 where
  pub onward : (i j a b : ℕ) → i ≤ j → slice_get path i ≡ Some a → slice_get path j ≡ Some b → Reaches edges a b
  pub back : (i j a b : ℕ) → i ≤ j → slice_get path i ≡ Some a → slice_get path j ≡ Some b → NoStart starts i j → Reaches edges b a

-- where the open components start: the first at place 0
pub record AreStarts (path starts : List ℕ) : Type 0 where
  pub rising : Rises starts
  pub inside : (s x : ℕ) → slice_get starts s ≡ Some x → x < length path
  pub first : 0 < length path → slice_get starts 0 ≡ Some 0

-- places of the path, in order
pub record ArePlaces (path work : List ℕ) : Type 0 where
  pub rising : Rises work
  pub inside : (s x : ℕ) → slice_get work s ≡ Some x → x < length path

-- the closed nodes: no edge leads out of them, each is in one component with the node that is its number, and one component has one number
pub record AreWhole (edges : Edges) (marks : List NodeMark) : Type 0 where
  pub onward : (a b m : ℕ) → slice_get marks a ≡ Some (Closed m) → HasEdge edges a b → IsClosed marks b
  pub named : (a m : ℕ) → slice_get marks a ≡ Some (Closed m) → Reaches edges a m × Reaches edges m a
  pub same : (a b m n : ℕ) → slice_get marks a ≡ Some (Closed m) → slice_get marks b ≡ Some (Closed n) → Reaches edges a b → Reaches edges b a → m ≡ n

-- what holds between two steps
pub record IsSound (edges : Edges) (marks : List NodeMark) (looked path starts work : List ℕ) : Type 0 where
  pub marks_count : length marks ≡ length edges
  pub looked_count : length looked ≡ length edges
  pub path_is : IsPath marks path
  pub linked : IsLinked edges path starts
  pub starts_are : AreStarts path starts
  pub work_is : ArePlaces path work
  pub whole : AreWhole edges marks
  pub fresh : (a : ℕ) → slice_get marks a ≡ Some Unfound → slice_get looked a ≡ Some 0
  pub settled : (i a e b : ℕ) (targets : List ℕ) → slice_get path i ≡ Some a → slice_get edges a ≡ Some targets → slice_get targets e ≡ Some b → IsSettled marks starts i b ⊎ IsLeft looked work i a e

abbrev pub IsSearch : Edges → Search → Type 0
IsSearch edges search = IsSound edges search.marks.items search.looked.items search.path.items search.starts.items search.work.items

-- a node that was found stays found
abbrev pub KeepsFound : List NodeMark → List NodeMark → Type 0
KeepsFound old new = (a : ℕ) → slice_get new a ≡ Some Unfound → slice_get old a ≡ Some Unfound

-- how many edges weren't looked at
abbrev pub edges_left : Edges → List ℕ → ℕ
edges_left [] looked = 0
edges_left (targets ∷ edges) [] = 0
edges_left (targets ∷ edges) (n ∷ looked) = (length targets - n) + edges_left edges looked

-- each step makes this number less
abbrev pub effort : Edges → Search → ℕ
effort edges search = 3 * edges_left edges search.looked.items + (length search.work.items + length search.starts.items)

-- ---- what the parts of a step do

-- these nodes are closed with one number, and no other mark changed
pub record Numbers (nodes : List ℕ) (number : ℕ) (old new : List NodeMark) : Type 0 where
  pub count : length new ≡ length old
  pub among : (i a : ℕ) → slice_get nodes i ≡ Some a → slice_get new a ≡ Some (Closed number)
  pub others : (a : ℕ) → ((i : ℕ) → slice_get nodes i ≡ Some a → ⊥) → slice_get new a ≡ slice_get old a

-- nothing is found
pub record IsNew (count : ℕ) (search : Search) : Type 0 where
  pub marks : search.marks.items ≡ replicate count Unfound
  pub looked : search.looked.items ≡ replicate count 0
  pub path : search.path.items ≡ []
  pub starts : search.starts.items ≡ []
  pub work : search.work.items ≡ []

-- the node is opened at the end of the path, as a component of its own
pub record Opens (node : ℕ) (old new : Search) : Type 0 where
  pub marks : new.marks.items ≡ set old.marks.items node (Open (length old.path.items))
  pub looked : new.looked.items ≡ old.looked.items
  pub path : new.path.items ≡ old.path.items ++ node ∷ []
  pub starts : new.starts.items ≡ old.starts.items ++ length old.path.items ∷ []
  pub work : new.work.items ≡ old.work.items ++ length old.path.items ∷ []

-- no component starts after the place any more
pub record Joins (place : ℕ) (old new : List ℕ) : Type 0 where
  pub count : length new ≤ length old
  pub before : (s x : ℕ) → slice_get new s ≡ Some x → slice_get old s ≡ Some x
  pub below : (s x : ℕ) → slice_get new s ≡ Some x → x ≤ place
  pub kept : (s x : ℕ) → slice_get old s ≡ Some x → x ≤ place → slice_get new s ≡ Some x

-- the last component, from this place of the path on, is closed
pub record Closes (start : ℕ) (old new : Search) : Type 0 where
  pub number : ℕ
  pub first : slice_get old.path.items start ≡ Some number
  pub marks : Numbers (drop start old.path.items) number old.marks.items new.marks.items
  pub looked : new.looked.items ≡ old.looked.items
  pub path : new.path.items ≡ take start old.path.items
  pub starts : new.starts.items ≡ take (length old.starts.items - 1) old.starts.items
  pub work : new.work.items ≡ old.work.items

-- each node of the path reaches the target
abbrev pub AllReach : Edges → List ℕ → ℕ → Type 0
AllReach edges path target = (i a : ℕ) → slice_get path i ≡ Some a → Reaches edges a target

-- an edge to the target is dealt with, at each place of the old path
pub record Follows (edges : Edges) (target : ℕ) (old new : Search) : Type 0 where
  pub sound : IsSearch edges new
  pub found : KeepsFound old.marks.items new.marks.items
  pub target_found : slice_get new.marks.items target ≡ Some Unfound → ⊥
  pub looked : new.looked.items ≡ old.looked.items
  pub path : (i a : ℕ) → slice_get old.path.items i ≡ Some a → slice_get new.path.items i ≡ Some a
  pub settled : (i : ℕ) → i < length old.path.items → IsSettled new.marks.items new.starts.items i target
  pub effort : length new.work.items + length new.starts.items ≤ length old.work.items + length old.starts.items + 2

-- the search is sound, found nodes are found still, and less is left
pub record Steps (edges : Edges) (old new : Search) : Type 0 where
  pub sound : IsSearch edges new
  pub found : KeepsFound old.marks.items new.marks.items
  pub less : effort edges new < effort edges old

-- the last of a list
abbrev pub IsLast : List ℕ → ℕ → Type 0
IsLast xs x = (0 < length xs) × (slice_get xs (length xs - 1) ≡ Some x)

-- the node was found, and no node is open any more
pub record Explores (edges : Edges) (root : ℕ) (old new : Search) : Type 0 where
  pub sound : IsSearch edges new
  pub found : KeepsFound old.marks.items new.marks.items
  pub root_found : slice_get new.marks.items root ≡ Some Unfound → ⊥
  pub idle : new.path.items ≡ []
