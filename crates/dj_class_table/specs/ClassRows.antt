-- The rows of a table in the order of their names, and what is kept beside them.
use Rattle.std.specs.Prelude.{◌≡◌, ℕ, ◌<◌, ◌^◌, List, map, length, get_or, Option, None, option_and_then}
use Rattle.std.specs.declared.cmp.Ordering.{Ordering}
use Rattle.std.specs.Ordering.{nat_cmp}
use Rattle.std.specs.Cmp.Lexicographic.{slice_cmp}
use Rattle.std.specs.List.{flat_map}
use Rattle.std.specs.List.Sorted.{IsStrictlySortedBy}
use Rattle.dj_model.specs.trusted.Program.{Program, Class}
use Rattle.dj_model.specs.trusted.Linking.{option_list}
use Rattle.dj_declarations.specs.Files.{bare_class}
use Rattle.dj_class_table.specs.Tables.{class_number, class_numbers}

-- by the bytes of the names
abbrev pub class_cmp : Class → Class → Ordering
class_cmp a b = slice_cmp nat_cmp a.name b.name

-- each name is below those after it
abbrev pub RiseStrictly : Program → Type 0
RiseStrictly = IsStrictlySortedBy class_cmp

abbrev pub super_in : Program → Class → Option ℕ
super_in program c = option_and_then (class_number program) c.superclass

abbrev pub interfaces_in : Program → Class → List ℕ
interfaces_in program c = class_numbers program c.interfaces

-- of numbers that may be there, those at these places
abbrev pub numbers_at : List (Option ℕ) → List ℕ → List ℕ
numbers_at numbers places = flat_map (λ place. option_list (get_or numbers place None)) places

-- rows in order, without code and constants, and the numbers of each one's superclass and interfaces
pub record IsTable (rows : Program) (supers : List (Option ℕ)) (interfaces : List (List ℕ)) : Type 0 where
  pub rise : RiseStrictly rows
  pub few : length rows < 2 ^ 31
  pub bare : map bare_class rows ≡ rows
  pub supers_are : supers ≡ map (super_in rows) rows
  pub interfaces_are : interfaces ≡ map (interfaces_in rows) rows
