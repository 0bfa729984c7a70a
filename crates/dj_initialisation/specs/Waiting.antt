-- Which classes wait for their initialisation when one is used, by their numbers.
use Rattle.std.specs.Prelude.{◌≡◌, ℕ, suc, ◌+◌, ◌-◌, ◌<◌, ◌⊎◌, Bool, true, false, List, [], ◌∷◌, ◌++◌, map, length, set, reverse, Option, Some, All, IfSome}
use Rattle.dj_names.specs.trusted.Types.{Name}
use Rattle.dj_model.specs.trusted.Program.{Program}
use Rattle.dj_model.specs.trusted.Linking.{chain}
use Rattle.dj_model.specs.trusted.Initialisation.{mark_all, not_initialised}
use Rattle.dj_class_table.specs.Tables.{super_number}
use Rattle.dj_resolution.specs.Linked.{class_name}
use Rattle.dj_resolution.specs.Numbers.{numbers_up}
use Rattle.dj_initialisation.specs.Flags.{AreFlags, has_begun, not_begun}

abbrev pub names_of : Program → List ℕ → List Name
names_of program classes = map (class_name program) classes

-- these classes wait, the class itself first, and count as initialised now
pub record AreWaiting (program : Program) (class : ℕ) (old new : List Bool) (classes : List ℕ) : Type 0 where
  pub names : not_initialised program old (chain program (class_name program class)) ≡ names_of program classes
  pub flags : mark_all program (reverse (names_of program classes)) old ≡ new
  pub numbers : All (λ k. k < length program) classes
  pub are : AreFlags program new

-- ---- used by the code alone: on the way up

abbrev pub marks : List Bool → List ℕ → List Bool
marks flags [] = flags
marks flags (k ∷ ks) = marks (set flags k true) ks

-- how many classes aren't initialised yet
abbrev pub waiting_count : List Bool → ℕ
waiting_count [] = 0
waiting_count (true ∷ flags) = waiting_count flags
waiting_count (false ∷ flags) = suc (waiting_count flags)

-- at most this many levels are looked at; the classes on the path wait, and what waits above it begins at the next class
pub record IsWalked (program : Program) (levels class : ℕ) (old now : List Bool) (path : List ℕ) (next : Option ℕ) : Type 0 where
  pub rest : not_begun old (numbers_up levels program (Some class)) ≡ path ++ not_begun now (numbers_up (levels - length path) program next)
  pub few : length path + waiting_count now ≡ waiting_count old
  pub flags : now ≡ marks old path
  pub numbers : All (λ k. k < length program) path
  pub there : IfSome next (λ k. k < length program)
  pub above : (k j : ℕ) → has_begun now k ≡ true → super_number program k ≡ Some j → (has_begun now j ≡ true) ⊎ (next ≡ Some j)
