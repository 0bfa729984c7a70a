-- Used by the code alone: the places of groups.
use Rattle.std.specs.Prelude.{◌≡◌, ℕ, ◌+◌, ◌<◌, ◌≤◌, ◌^◌, Bool, true, false, List, length, get_or}
use Rattle.dj_groups.specs.Groups.{Group, group_at, starts, owns}
use Rattle.dj_emit.specs.declared.places.Places.{Places}
use Rattle.dj_emit.specs.Parts.{groups_seen}

-- the next number from k on whose instruction is the first of a handler, or the end
pub record IsNext (gs : List Group) (k next : ℕ) : Type 0 where
  pub low : k ≤ next
  pub high : next ≤ length gs
  pub between : (j : ℕ) → k ≤ j → j < next → (group_at gs j).arrives ≡ false
  pub there : next < length gs → (group_at gs next).arrives ≡ true

-- for each number up to the end
pub record AreNexts (gs : List Group) (nexts : List ℕ) : Type 0 where
  pub all : length nexts ≡ length gs + 1
  pub each : (k : ℕ) → k ≤ length gs → IsNext gs k (get_or nexts k 0)

pub record ArePlaces (places : Places) : Type 0 where
  pub few : length places.groups.items < 2 ^ 16
  pub start : places.start.items ≡ starts (groups_seen places.groups.items)
  pub own : places.own.items ≡ owns (groups_seen places.groups.items)
  pub next : AreNexts (groups_seen places.groups.items) places.next.items
