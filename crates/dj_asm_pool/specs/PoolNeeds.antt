-- What the needs of a line do to the pool: the code's own words.
use Rattle.std.specs.Prelude.{◌≡◌, ℕ, ◌⊎◌, Bool, true, false, nat_lt, List, [], map, length, Contains, Option}
use Rattle.std.specs.List.{AllByRecursion, flat_map}
use Rattle.dj_asm_source.specs.trusted.Sources.{Source}
use Rattle.dj_asm_pool.specs.trusted.Entries.{Entry, Utf8, with_parts}
use Rattle.dj_asm_pool.specs.trusted.Needs.{needs_of, needed_entry}
use Rattle.dj_asm_pool.specs.trusted.Room.{IsShort, IsPastPool}
use Rattle.dj_asm_pool.specs.Room.{IsFirst}
use Rattle.dj_asm_pool.specs.Pooling.{EndsIn, all_kept, HasIndex, IsFull}

-- the test of the code: a text has at most 65,535 bytes
abbrev pub is_short : List ℕ → Bool
is_short text = nat_lt (length text) 65536

abbrev pub short_entry : Entry → Bool
short_entry (Utf8 text) = is_short text
short_entry entry = true

-- it is short, is in the pool and ends where it may
abbrev pub HasPlace : List Entry → Entry → Type 0
HasPlace es e = IsShort e × HasIndex es e

-- it has no room, whatever is put later
abbrev pub LacksPlace : List Entry → Entry → Type 0
LacksPlace es e = (IsShort e → ⊥) ⊎ ((EndsIn es e → ⊥) × IsFull es)

pub record OneLacksPlace (es entries : List Entry) : Type 0 where
  pub entry : Entry
  pub among : Contains entries entry
  pub lacks : LacksPlace es entry

abbrev pub all_parts : List Entry → List Entry
all_parts entries = flat_map with_parts entries

-- the entries are put, each with its parts, and all have room, or one has none
abbrev pub PutsNeeds : (before entries now : List Entry) → Bool → Type 0
PutsNeeds before entries now true = (now ≡ all_kept before (all_parts entries)) × AllByRecursion (HasPlace now) (all_parts entries)
PutsNeeds before entries now false = (now ≡ all_kept before (all_parts entries)) × OneLacksPlace now (all_parts entries)

-- the entries that are needed, and the first line that needs one without room
pub record IsPoolOf (s : Source) (kept : List Entry) (lacking : Option ℕ) : Type 0 where
  pub kept_is : kept ≡ all_kept [] (map needed_entry (needs_of s))
  pub lacking_is : IsFirst (IsPastPool s) lacking
