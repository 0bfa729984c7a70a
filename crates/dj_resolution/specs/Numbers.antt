-- Walks among classes by their numbers, and what is found on them.
use Rattle.std.specs.Prelude.{◌≡◌, ℕ, zero, suc, ◌+◌, ◌-◌, ◌^◌, ◌<◌, Bool, true, false, List, [], ◌∷◌, ◌++◌, map, length, Option, Some, None, nat_eq, if◌then◌else◌, slice_get, get_or}
use Rattle.std.specs.List.{flat_map}
use Rattle.std.specs.Option.{option_map}
use Rattle.std.specs.Global.{Vec}
use Rattle.dj_names.specs.declared.descriptor.Desc.{Desc}
use Rattle.dj_names.specs.trusted.Types.{Name}
use Rattle.dj_model.specs.trusted.Program.{Program, Class, Method, method_in, field_in}
use Rattle.dj_model.specs.trusted.Linking.{most_classes, FoundMethod, FoundField, method_or, field_or, or_else}
use Rattle.dj_class_table.specs.Tables.{super_number, interface_numbers, method_there, field_there}
use Rattle.dj_class_table.specs.declared.place.Place.{Place}

-- ---- numbers, each once

abbrev pub has : List ℕ → ℕ → Bool
has [] x = false
has (y ∷ ys) x = if nat_eq y x then true else has ys x

-- one more at the end, unless it is there
abbrev pub with_new : List ℕ → ℕ → List ℕ
with_new xs x = if has xs x then xs else xs ++ x ∷ []

abbrev pub with_all : List ℕ → List ℕ → List ℕ
with_all xs [] = xs
with_all xs (y ∷ ys) = with_all (with_new xs y) ys

-- each number once, where it comes first
abbrev pub first_places : List ℕ → List ℕ
first_places xs = with_all [] xs

-- ---- classes above a class

-- interfaces and those above them, at most this many levels
unfoldable pub numbers_from : ℕ → Program → List ℕ → List ℕ
numbers_from zero program classes = []
numbers_from (suc n) program classes = flat_map (λ k. k ∷ numbers_from n program (interface_numbers program k)) classes

-- the interfaces that a class lists, and those above them
unfoldable pub numbers_above : Program → ℕ → List ℕ
numbers_above program class = numbers_from most_classes program (interface_numbers program class)

-- each of them once, where it comes first
abbrev pub once_above : Program → ℕ → List ℕ
once_above program class = first_places (numbers_above program class)

-- a class and its superclasses upward, at most this many
unfoldable pub numbers_up : ℕ → Program → Option ℕ → List ℕ
numbers_up zero program class = []
numbers_up (suc n) program None = []
numbers_up (suc n) program (Some k) = k ∷ numbers_up n program (super_number program k)

-- this many levels are above a class at most
unfoldable pub most_above : ℕ
most_above = 2 ^ 32 - 1

-- the lists as the code holds them
abbrev pub lists_of : List (Vec ℕ) → List (List ℕ)
lists_of lists = map (λ list. list.items) lists

-- an interface and those above it come to the list
abbrev pub with_above : List (List ℕ) → List ℕ → ℕ → List ℕ
with_above lists list class = if has list class then list else with_all list (class ∷ get_or lists class [])

-- for each class, by its number, the interfaces above it
pub record AreAbove (program : Program) (lists : List (List ℕ)) : Type 0 where
  pub count : length lists ≡ length program
  pub each : (k : ℕ) → k < length program → get_or lists k [] ≡ once_above program k

-- with more levels there are no more interfaces above the class
pub record IsEnough (program : Program) (levels class : ℕ) : Type 0 where
  pub same : (n : ℕ) → numbers_from (n + levels) program (interface_numbers program class) ≡ numbers_from levels program (interface_numbers program class)

-- how many classes are marked
abbrev pub marked_count : List Bool → ℕ
marked_count [] = 0
marked_count (mark ∷ marks) = if mark then 1 + marked_count marks else marked_count marks

-- for each marked class the interfaces above it, which take no more levels than there are marks
pub record AreKnown (program : Program) (lists : List (List ℕ)) (marks : List Bool) : Type 0 where
  pub lists_count : length lists ≡ length program
  pub marks_count : length marks ≡ length program
  pub each : (k : ℕ) → get_or marks k false ≡ true → get_or lists k [] ≡ once_above program k
  pub enough : (k : ℕ) → get_or marks k false ≡ true → IsEnough program (marked_count marks) k

-- all of the numbers are below the bound
abbrev pub AreBelow : ℕ → List ℕ → Type 0
AreBelow bound numbers = (z : ℕ) → has numbers z ≡ true → z < bound

-- ---- searches

-- what is found for the first of these numbers for which something is
abbrev pub first_some : {A : Type 0} → (ℕ → Option A) → List ℕ → Option A
first_some f [] = None
first_some f (x ∷ xs) = or_else (f x) (first_some f xs)

-- the method that a class declares, where it passes the test
abbrev pub method_in_class : (Method → Bool) → Name → Desc → Option Class → Option FoundMethod
method_in_class test name desc None = None
method_in_class test name desc (Some c) = method_or c.name test (method_in c.methods name desc) None

abbrev pub method_found : Program → (Method → Bool) → Name → Desc → ℕ → Option FoundMethod
method_found program test name desc class = method_in_class test name desc (slice_get program class)

-- the field that a class declares
abbrev pub field_in_class : Name → Desc → Option Class → Option FoundField
field_in_class name desc None = None
field_in_class name desc (Some c) = field_or c.name (field_in c.fields name desc) None

abbrev pub field_found : Program → Name → Desc → ℕ → Option FoundField
field_found program name desc class = field_in_class name desc (slice_get program class)

-- the place says what was found
abbrev pub SaysMethod : Program → Option Place → Option FoundMethod → Type 0
SaysMethod program place found = option_map (method_there program) place ≡ option_map Some found

abbrev pub SaysField : Program → Option Place → Option FoundField → Type 0
SaysField program place found = option_map (field_there program) place ≡ option_map Some found

-- as many lists of numbers below the bound
pub record AreInside (bound : ℕ) (lists : List (List ℕ)) : Type 0 where
  pub count : length lists ≡ bound
  pub each : (k : ℕ) → AreBelow bound (get_or lists k [])

-- the method at the place is this one, and has this name and this descriptor
pub record IsNamed (program : Program) (place : Place) (found : FoundMethod) (name : Name) (desc : Desc) : Type 0 where
  pub there : method_there program place ≡ Some found
  pub named : found.method.name ≡ name
  pub described : found.method.desc ≡ desc
