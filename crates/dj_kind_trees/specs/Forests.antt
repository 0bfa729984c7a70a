-- Trees of one height, as callers see them.
use Rattle.std.specs.Prelude.{◌≡◌, ℕ, ◌-◌, ◌<◌, ◌≤◌, ◌↔◌, List, length, Option, Some, None}
use Rattle.dj_names.specs.declared.descriptor.Kind.{Kind}
use Rattle.dj_kind_trees.specs.declared.node.Node.{Node}
use Rattle.dj_kind_trees.specs.Nodes.{kind_at, size_of, listed, AreNodes}

pub record Forest : Type 0 where
  pub height : ℕ
  pub nodes : List Node

-- how many slots each of them has
abbrev pub slots_of : Forest → ℕ
slots_of forest = size_of forest.height

-- it is one of the trees
abbrev pub IsTree : Forest → ℕ → Type 0
IsTree forest tree = tree < length forest.nodes

-- the kind that a tree has in a slot, if it has one there
abbrev pub kind_in : Forest → ℕ → ℕ → Option Kind
kind_in forest tree slot = kind_at forest.nodes forest.height tree slot

-- the trees that there were are there, with their kinds
pub record KeepsTrees (old new : Forest) : Type 0 where
  pub slots : slots_of new ≡ slots_of old
  pub trees : (tree : ℕ) → IsTree old tree → IsTree new tree
  pub kinds : (tree slot : ℕ) → IsTree old tree → kind_in new tree slot ≡ kind_in old tree slot

-- each kind of the second tree is the first one's too
pub record FlowsInto (forest : Forest) (first second : ℕ) : Type 0 where
  pub each : (slot : ℕ) (kind : Kind) → slot < slots_of forest → kind_in forest second slot ≡ Some kind → kind_in forest first slot ≡ Some kind

-- a tree without kinds
pub record IsBare (forest : Forest) (tree : ℕ) : Type 0 where
  pub tree_is : IsTree forest tree
  pub none : (slot : ℕ) → kind_in forest tree slot ≡ None

-- a tree with this kind in a slot, and else those of another
pub record HasPut (old new : Forest) (tree slot : ℕ) (kind : Option Kind) (made : ℕ) : Type 0 where
  pub tree_is : IsTree new made
  pub here : kind_in new made slot ≡ kind
  pub others : (other : ℕ) → other < slots_of old → (other ≡ slot → ⊥) → kind_in new made other ≡ kind_in old tree other

-- a tree with the kinds of another before a slot, and with those of a list from there on
pub record HasReplaced (old new : Forest) (tree from : ℕ) (kinds : List (Option Kind)) (made : ℕ) : Type 0 where
  pub tree_is : IsTree new made
  pub before : (slot : ℕ) → slot < slots_of old → slot < from → kind_in new made slot ≡ kind_in old tree slot
  pub after : (slot : ℕ) → slot < slots_of old → from ≤ slot → kind_in new made slot ≡ listed kinds (slot - from)

-- a tree with the kinds that two have both
pub record HasMet (old new : Forest) (a b made : ℕ) : Type 0 where
  pub tree_is : IsTree new made
  pub each : (slot : ℕ) (kind : Kind) → slot < slots_of old → (kind_in new made slot ≡ Some kind) ↔ ((kind_in old a slot ≡ Some kind) × (kind_in old b slot ≡ Some kind))

-- what holds of the trees and their size
pub record AreTrees (height size : ℕ) (nodes : List Node) : Type 0 where
  pub nodes_are : AreNodes nodes
  pub size_is : size ≡ size_of height
