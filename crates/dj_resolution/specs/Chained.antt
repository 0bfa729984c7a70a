-- Lists of what stands above a class and its superclasses: one list a class, which classes may share.
use Rattle.std.specs.Prelude.{◌≡◌, ℕ, ◌+◌, ◌<◌, Bool, List, [], ◌∷◌, length, Option, Some, None, is_some, slice_get, get_or}
use Rattle.std.specs.List.{filter, flat_map}
use Rattle.dj_model.specs.trusted.Program.{Program}
use Rattle.dj_model.specs.trusted.Linking.{most_classes}
use Rattle.dj_class_table.specs.Tables.{fields_at}
use Rattle.dj_resolution.specs.declared.chains.Chains.{Chains}
use Rattle.dj_resolution.specs.Numbers.{first_places, lists_of, numbers_up, once_above}

-- ---- rows

-- for each class, by its number, its row
pub record AreRows (program : Program) (row : ℕ → List ℕ) (lists : List (List ℕ)) : Type 0 where
  pub count : length lists ≡ length program
  pub each : (k : ℕ) → k < length program → get_or lists k [] ≡ row k

-- the class declares a field
abbrev pub has_field : Program → ℕ → Bool
has_field program class = is_some (slice_get (fields_at program class) 0)

-- a class and the interfaces above it, of those that declare a field
abbrev pub field_row : Program → ℕ → List ℕ
field_row program class = filter (has_field program) (class ∷ once_above program class)

-- ---- rows of a class and its superclasses

-- the rows of a class and its superclasses in turn, each number once, where it comes first
abbrev pub once_up : Program → (ℕ → List ℕ) → ℕ → List ℕ
once_up program row class = first_places (flat_map row (numbers_up most_classes program (Some class)))

-- with more levels there are no more superclasses above the class
pub record IsShort (program : Program) (levels class : ℕ) : Type 0 where
  pub same : (n : ℕ) → numbers_up (n + levels) program (Some class) ≡ numbers_up levels program (Some class)

-- how many classes have a place
abbrev pub known_count : List (Option ℕ) → ℕ
known_count [] = 0
known_count (None ∷ places) = known_count places
known_count (Some place ∷ places) = known_count places + 1

-- where a class has a place, its list is there
pub record AreChained (program : Program) (row : ℕ → List ℕ) (lists : List (List ℕ)) (places : List (Option ℕ)) : Type 0 where
  pub count : length places ≡ length program
  pub each : (k place : ℕ) → get_or places k None ≡ Some place → slice_get lists place ≡ Some (once_up program row k)

-- and no more superclasses are above it than there are places
pub record AreLearnt (program : Program) (row : ℕ → List ℕ) (lists : List (List ℕ)) (places : List (Option ℕ)) : Type 0 where
  pub chained : AreChained program row lists places
  pub short : (k place : ℕ) → get_or places k None ≡ Some place → IsShort program (known_count places) k

-- ---- lists as the code holds them

abbrev pub row_at : List (List ℕ) → ℕ → List ℕ
row_at rows class = get_or rows class []

-- the lists of the rows
abbrev pub AreListsOf : Program → (ℕ → List ℕ) → Chains → Type 0
AreListsOf program row chains = AreChained program row (lists_of chains.lists.items) chains.places.items

-- for each class the interfaces above it and its superclasses
abbrev pub AreMethodChains : Program → Chains → Type 0
AreMethodChains program chains = AreListsOf program (once_above program) chains

-- for each class those that declare a field: the class, the interfaces above it, its superclass, the interfaces above that, and so on
abbrev pub AreFieldChains : Program → Chains → Type 0
AreFieldChains program chains = AreListsOf program (field_row program) chains
