-- Lists of kinds that are kept as trees.
use Rattle.std.specs.Prelude.{◌≡◌, ℕ, zero, suc, ◌-◌, ◌<◌, ◌≤◌, List, [], ◌∷◌, length, get_or, All, Option, Some, None, MatchOption}
use Rattle.dj_names.specs.declared.descriptor.Kind.{Kind}
use Rattle.dj_kind_trees.specs.Nodes.{listed}
use Rattle.dj_kind_lists.specs.declared.ranges.KindRange.{KindRange}
use Rattle.dj_kind_trees.specs.Forests.{Forest, IsTree, IsBare, kind_in, slots_of}

-- ---- as callers see them

pub record Lists : Type 0 where
  -- the length of each list
  pub count : ℕ
  -- the one that stands
  pub current : List (Option Kind)
  pub frames : List (List (Option Kind))
  -- those that stood before instructions
  pub states : List (List (Option Kind))

-- each kind of a frame's list is the other one's too
pub record ListFlows (list frame : List (Option Kind)) : Type 0 where
  pub each : (slot : ℕ) (kind : Kind) → listed frame slot ≡ Some kind → listed list slot ≡ Some kind

-- at most the list that stands is another
pub record SameLists (old new : Lists) : Type 0 where
  pub count : new.count ≡ old.count
  pub frames : new.frames ≡ old.frames
  pub states : new.states ≡ old.states

-- at most frames' lists are others
pub record SameButFrames (old new : Lists) : Type 0 where
  pub count : new.count ≡ old.count
  pub current : new.current ≡ old.current
  pub states : new.states ≡ old.states

-- at most those are others that stood before instructions
pub record SameButStates (old new : Lists) : Type 0 where
  pub count : new.count ≡ old.count
  pub current : new.current ≡ old.current
  pub frames : new.frames ≡ old.frames

-- it has the kinds of a list before a slot, and those of another from there on
pub record IsChanged (count : ℕ) (base : List (Option Kind)) (from : ℕ) (kinds made : List (Option Kind)) : Type 0 where
  pub many : length made ≡ count
  pub before : (slot : ℕ) → slot < count → slot < from → listed made slot ≡ listed base slot
  pub after : (slot : ℕ) → slot < count → from ≤ slot → listed made slot ≡ listed kinds (slot - from)

-- the range doesn't have the instruction, or the list that stood before it has the kinds of the range's frame
abbrev pub HoldsIn : List (List (Option Kind)) → List (List (Option Kind)) → ℕ → KindRange → Type 0
HoldsIn states frames number range = range.from ≤ number → number < range.to → ListFlows (get_or states number []) (get_or frames range.frame [])

abbrev pub AllFlow : List (List (Option Kind)) → List (List (Option Kind)) → List KindRange → ℕ → Type 0
AllFlow states frames ranges number = All (HoldsIn states frames number) ranges

-- the first instruction below a limit before which it lacks one, if there is one
abbrev pub IsFirstLack : List (List (Option Kind)) → List (List (Option Kind)) → List KindRange → ℕ → Option ℕ → Type 0
IsFirstLack states frames ranges limit first = MatchOption first
    ((number : ℕ) → number < limit → AllFlow states frames ranges number)
    (λ found. (found < limit) × (AllFlow states frames ranges found → ⊥) × ((number : ℕ) → number < found → AllFlow states frames ranges number))

-- ---- as they are kept

-- the kinds of a tree from a slot on
unfoldable pub kinds_from : Forest → ℕ → ℕ → ℕ → List (Option Kind)
kinds_from forest tree slot zero = []
kinds_from forest tree slot (suc count) = kind_in forest tree slot ∷ kinds_from forest tree (suc slot) count

abbrev pub kinds_of : Forest → ℕ → ℕ → List (Option Kind)
kinds_of forest count tree = kinds_from forest tree 0 count

-- it is one of the trees, and has no kinds in slots beyond
pub record IsShort (forest : Forest) (count tree : ℕ) : Type 0 where
  pub tree_is : IsTree forest tree
  pub none : (slot : ℕ) → count ≤ slot → slot < slots_of forest → kind_in forest tree slot ≡ None

-- the tree of a number; beyond the last the one without kinds
abbrev pub tree_at : List ℕ → ℕ → ℕ
tree_at trees number = get_or trees number 0

abbrev pub AreShort : Forest → ℕ → List ℕ → Type 0
AreShort forest count trees = (number : ℕ) → IsShort forest count (tree_at trees number)

pub record AreLists (forest : Forest) (count current : ℕ) (frames states : List ℕ) : Type 0 where
  pub room : count ≤ slots_of forest
  pub bare : IsBare forest 0
  pub current_is : IsShort forest count current
  pub frames_are : AreShort forest count frames
  pub states_are : AreShort forest count states
