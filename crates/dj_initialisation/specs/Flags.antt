-- Which classes are initialised, by their numbers.
use Rattle.std.specs.Prelude.{◌≡◌, ℕ, Bool, true, List, [], ◌∷◌, ◌++◌, ◌<◌, ◌^◌, length, set, get_or, Some, if◌then◌else◌}
use Rattle.dj_model.specs.trusted.Program.{Program}
use Rattle.dj_class_table.specs.Tables.{super_number}

-- past the last class, as for an array, there is nothing to initialise
abbrev pub has_begun : List Bool → ℕ → Bool
has_begun flags class = get_or flags class true

-- those of these classes that aren't initialised yet, each once
abbrev pub not_begun : List Bool → List ℕ → List ℕ
not_begun flags [] = []
not_begun flags (k ∷ ks) = (if has_begun flags k then [] else k ∷ []) ++ not_begun (set flags k true) ks

-- one flag for each class, and the superclass of one that is initialised is initialised too
pub record AreFlags (program : Program) (flags : List Bool) : Type 0 where
  pub count : length flags ≡ length program
  pub few : length program < 2 ^ 32
  pub above : (k j : ℕ) → has_begun flags k ≡ true → super_number program k ≡ Some j → has_begun flags j ≡ true
