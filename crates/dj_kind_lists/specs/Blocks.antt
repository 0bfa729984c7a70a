-- Blocks of states one after the other, each with the kinds that all of its states have.
use Rattle.std.specs.Prelude.{◌≡◌, ℕ, zero, suc, ◌+◌, ◌<◌, ◌≤◌, ◌↔◌, List, length, get_or, Some}
use Rattle.dj_names.specs.declared.descriptor.Kind.{Kind}
use Rattle.dj_kind_trees.specs.Nodes.{size_of}
use Rattle.dj_kind_trees.specs.Forests.{Forest, IsTree, kind_in, slots_of}
use Rattle.dj_kind_lists.specs.declared.block.Block.{Block}

-- the state of this number; after the last the tree without kinds
abbrev pub state_at : List ℕ → ℕ → ℕ
state_at states number = get_or states number 0

-- each is one of the trees
abbrev pub AreStates : Forest → List ℕ → Type 0
AreStates forest states = (number : ℕ) → IsTree forest (state_at states number)

abbrev pub no_block : Block
no_block = record { meet = 0; left = 0; right = 0 }

abbrev pub block_at : List Block → ℕ → Block
block_at blocks id = get_or blocks id no_block

-- the number is that of one of the states of the block of this height that begins here
pub record IsInside (h from number : ℕ) : Type 0 where
  pub low : from ≤ number
  pub high : number < from + size_of h

-- a tree has the kinds that all states of a block have
pub record HasAll (forest : Forest) (states : List ℕ) (h from tree : ℕ) : Type 0 where
  pub tree_is : IsTree forest tree
  pub each : (slot : ℕ) (kind : Kind) → slot < slots_of forest
      → (kind_in forest tree slot ≡ Some kind) ↔ ((number : ℕ) → IsInside h from number → kind_in forest (state_at states number) slot ≡ Some kind)

-- the tree of a block; one of height 0 is a state
abbrev pub meet_of : List ℕ → List Block → ℕ → ℕ → ℕ
meet_of states blocks zero id = state_at states id
meet_of states blocks (suc h) id = (block_at blocks id).meet

-- the block of this height that begins here, with those of its halves
unfoldable pub IsBlock : Forest → List ℕ → List Block → ℕ → ℕ → ℕ → Type 0
IsBlock forest states blocks zero from id = id ≡ from
IsBlock forest states blocks (suc h) from id =
    (id < length blocks) × HasAll forest states (suc h) from (block_at blocks id).meet × IsBlock forest states blocks h from (block_at blocks id).left
    × IsBlock forest states blocks h (from + size_of h) (block_at blocks id).right

-- the blocks that there were are there
pub record KeepsBlocks (old new : List Block) : Type 0 where
  pub more : length old ≤ length new
  pub same : (id : ℕ) → id < length old → block_at new id ≡ block_at old id
