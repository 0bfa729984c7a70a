-- Lines that need an entry for which there is no room, and the first line that is such.
use Rattle.std.specs.Prelude.{◌≡◌, ℕ, ◌+◌, ◌^◌, ◌<◌, ◌≤◌, length, Contains}
use Rattle.dj_asm_source.specs.trusted.Sources.{Source}
use Rattle.dj_asm_pool.specs.trusted.Entries.{Entry, Utf8, width}
use Rattle.dj_asm_pool.specs.trusted.Needs.{Need, needs_of, index_in}

-- JVMS 4.4.7: a text has at most 65,535 bytes
abbrev pub IsShort : Entry → Type 0
IsShort (Utf8 text) = length text < 2 ^ 16
IsShort entry = Unit {0}

-- JVMS 4.1, constant_pool_count: the last index of an entry is at most 65,534
pub record HasRoom (index : ℕ) (entry : Entry) : Type 0 where
  pub short : IsShort entry
  pub last : index + width entry ≤ 65535

-- the line needs an entry for which there is no room
pub record IsPastPool (s : Source) (place : ℕ) : Type 0 where
  pub need : Need
  pub needed : Contains (needs_of s) need
  pub place_is : need.place ≡ place
  pub no_room : HasRoom (index_in s need.entry) need.entry → ⊥

-- ---- lines

-- no line of the source is such
abbrev pub NoLine : (ℕ → Type 0) → Type 0
NoLine IsSuch = (place : ℕ) → IsSuch place → ⊥
