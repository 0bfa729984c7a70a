-- Used by the code alone: the names that a class lists, by their places among names that are kept.
use Rattle.std.specs.Prelude.{◌≡◌, ℕ, ◌+◌, List, [], map, length, Option, Some, None, get_or, slice_get}
use Rattle.std.specs.Option.{option_map}
use Rattle.dj_names.specs.trusted.Types.{Name}
use Rattle.dj_pool.specs.trusted.Pool.{Constant, text_at}

-- the names at these places
abbrev pub listed_at : List Name → List ℕ → List Name
listed_at names places = map (λ place. get_or names place []) places

-- each place is that of a name, and these are the names
abbrev pub AreListed : List Name → List ℕ → List Name → Type 0
AreListed names places listed = map (slice_get names) places ≡ map Some listed

-- each name keeps its place
abbrev pub NamesKeep : List Name → List Name → Type 0
NamesKeep old new = (place : ℕ) (name : Name) → slice_get old place ≡ Some name → slice_get new place ≡ Some name

-- there is an entry for each index of the pool; where it has a place, the name at that place is the text at the index
pub record AreCopies (pool : List Constant) (names : List Name) (places : List (Option ℕ)) : Type 0 where
  pub rooms : length places ≡ length pool + 1
  pub reported : (index place : ℕ) → get_or places index None ≡ Some place → option_map Some (text_at pool index) ≡ Some (slice_get names place)
