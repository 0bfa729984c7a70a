-- Trees of kinds: which kind a tree has in a slot, and when one tree's kinds may go on at another's.
use Rattle.std.specs.Prelude.{◌≡◌, ℕ, zero, suc, ◌+◌, ◌-◌, ◌<◌, ◌≤◌, ◌⊎◌, ◌↔◌, List, length, get_or, Option, Some, None, nat_eq, nat_lt, if◌then◌else◌}
use Rattle.dj_names.specs.declared.descriptor.Kind.{Kind}
use Rattle.dj_names.specs.declared.descriptor.Kind.TheVariants as kinds
use Rattle.dj_kind_trees.specs.declared.node.Node.{Node}

-- the number of a tree of height 0 stands for its kind
abbrev pub kind_of : ℕ → Option Kind
kind_of number =
    if nat_eq number 0 then None
    else if nat_eq number 1 then Some kinds.Int
    else if nat_eq number 2 then Some kinds.Long
    else Some kinds.Ref

abbrev pub number_of : Option Kind → ℕ
number_of None = 0
number_of (Some kinds.Int) = 1
number_of (Some kinds.Long) = 2
number_of (Some kinds.Ref) = 3

-- no kinds
abbrev pub nothing : Node
nothing = record { height = 0; left = 0; right = 0; met = 0 }

abbrev pub node_at : List Node → ℕ → Node
node_at nodes id = get_or nodes id nothing

-- the slots of a tree of this height
unfoldable pub size_of : ℕ → ℕ
size_of zero = 1
size_of (suc h) = size_of h + size_of h

-- the kind in a slot, if there is one
unfoldable pub kind_at : List Node → ℕ → ℕ → ℕ → Option Kind
kind_at nodes zero id slot = kind_of id
kind_at nodes (suc h) id slot =
    if nat_lt slot (size_of h) then kind_at nodes h (node_at nodes id).left slot else kind_at nodes h (node_at nodes id).right (slot - size_of h)

-- each kind of the second tree is the first one's too
pub record Meets (nodes : List Node) (height s f : ℕ) : Type 0 where
  pub each : (slot : ℕ) (kind : Kind) → slot < size_of height → kind_at nodes height f slot ≡ Some kind → kind_at nodes height s slot ≡ Some kind

-- ---- what holds of all nodes

-- a node that remembers one remembers one that meets it
abbrev pub Remembers : List Node → ℕ → Type 0
Remembers nodes f = ((node_at nodes f).met ≡ 0) ⊎ (((node_at nodes f).met < length nodes) × Meets nodes (node_at nodes f).height (node_at nodes f).met f)

-- the first node has no kinds, halves are nodes, the numbers of kinds are numbers of nodes too, and what is remembered is so
pub record AreNodes (nodes : List Node) : Type 0 where
  pub first : node_at nodes 0 ≡ nothing
  pub many : 4 ≤ length nodes
  pub closed : (id : ℕ) → ((node_at nodes id).left < length nodes) × ((node_at nodes id).right < length nodes)
  pub remember : (f : ℕ) → Remembers nodes f

-- the trees that there were have their kinds
pub record Keeps (old new : List Node) : Type 0 where
  pub more : length old ≤ length new
  pub same : (h id slot : ℕ) → id < length old → kind_at new h id slot ≡ kind_at old h id slot

-- ---- what is made

-- the node with these halves
pub record IsNode (nodes : List Node) (left right id : ℕ) : Type 0 where
  pub within : id < length nodes
  pub left_is : (node_at nodes id).left ≡ left
  pub right_is : (node_at nodes id).right ≡ right

-- a tree with this kind in a slot, and else those of another
pub record IsPut (old new : List Node) (h id slot : ℕ) (kind : Option Kind) (made : ℕ) : Type 0 where
  pub within : made < length new
  pub here : kind_at new h made slot ≡ kind
  pub others : (other : ℕ) → other < size_of h → (other ≡ slot → ⊥) → kind_at new h made other ≡ kind_at old h id other

-- a tree with the kinds of another before a slot, and of a list from there on
abbrev pub listed : List (Option Kind) → ℕ → Option Kind
listed kinds slot = get_or kinds slot None

pub record IsReplaced (old new : List Node) (h id from : ℕ) (kinds : List (Option Kind)) (made : ℕ) : Type 0 where
  pub within : made < length new
  pub before : (slot : ℕ) → slot < size_of h → slot < from → kind_at new h made slot ≡ kind_at old h id slot
  pub after : (slot : ℕ) → slot < size_of h → from ≤ slot → kind_at new h made slot ≡ listed kinds (slot - from)

-- a tree with the kinds that two have both
pub record IsMeet (old new : List Node) (h a b made : ℕ) : Type 0 where
  pub within : made < length new
  pub each : (slot : ℕ) (kind : Kind) → slot < size_of h
      → (kind_at new h made slot ≡ Some kind) ↔ ((kind_at old h a slot ≡ Some kind) × (kind_at old h b slot ≡ Some kind))
