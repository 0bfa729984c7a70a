-- Ranges of states, and what frames ask of them, by the trees of both.
use Rattle.std.specs.Prelude.{◌≡◌, ℕ, ◌<◌, ◌≤◌, ◌⊎◌, List, [], All, Option, MatchOption}
use Rattle.dj_kind_trees.specs.Forests.{Forest, FlowsInto}
use Rattle.dj_kind_lists.specs.declared.ranges.KindRange.{KindRange}
use Rattle.dj_kind_lists.specs.Blocks.{state_at, IsInside}

-- the range doesn't have the state, or the state has what its frame asks
abbrev pub RangeFlows : Forest → List ℕ → List ℕ → ℕ → KindRange → Type 0
RangeFlows forest states frames number range = range.from ≤ number → number < range.to → FlowsInto forest (state_at states number) (state_at frames range.frame)

abbrev pub RangesFlow : Forest → List ℕ → List ℕ → List KindRange → ℕ → Type 0
RangesFlow forest states frames ranges number = All (RangeFlows forest states frames number) ranges

-- the same of all states of a block
abbrev pub AllInside : Forest → List ℕ → List ℕ → List KindRange → ℕ → ℕ → Type 0
AllInside forest states frames ranges h from = (number : ℕ) → IsInside h from number → RangesFlow forest states frames ranges number

-- some of the ranges, such that the others ask of each state of the block what it has; one state lacks what one of them asks
pub record AreLeft (forest : Forest) (states frames : List ℕ) (h from : ℕ) (ranges rest : List KindRange) : Type 0 where
  pub all : (number : ℕ) → IsInside h from number → RangesFlow forest states frames rest number → RangesFlow forest states frames ranges number
  pub own : (number : ℕ) → IsInside h from number → RangesFlow forest states frames ranges number → RangesFlow forest states frames rest number
  pub low : h ≡ 0 → (rest ≡ []) ⊎ (RangesFlow forest states frames rest from → ⊥)

-- the first state of a block that lacks what one of the ranges asks
pub record IsFirstIn (forest : Forest) (states frames : List ℕ) (ranges : List KindRange) (h from number : ℕ) : Type 0 where
  pub inside : IsInside h from number
  pub lacks : RangesFlow forest states frames ranges number → ⊥
  pub before : (other : ℕ) → IsInside h from other → other < number → RangesFlow forest states frames ranges other

-- the first state below a limit, if there is one
abbrev pub IsFirstBelow : Forest → List ℕ → List ℕ → List KindRange → ℕ → Option ℕ → Type 0
IsFirstBelow forest states frames ranges limit first = MatchOption first
    ((number : ℕ) → number < limit → RangesFlow forest states frames ranges number)
    (λ found. (found < limit) × (RangesFlow forest states frames ranges found → ⊥) × ((number : ℕ) → number < found → RangesFlow forest states frames ranges number))
