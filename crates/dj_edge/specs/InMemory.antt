-- What stores in memory hold, and the order in which files are listed.
use Rattle.std.specs.Prelude.{ℕ, Bool, ◌==◌, List, map, reverse, filter, string_bytes}
use Rattle.std.specs.List.{list_any}
use Rattle.std.specs.Global.{Vec, Global}
use Rattle.std.specs.declared.string.String as string_declared
use Rattle.dj_edge.specs.declared.order.Order.{Order}
use Rattle.dj_edge.specs.declared.order.Order.TheVariants.{Given, Reversed}
use Rattle.dj_edge.specs.trusted.Held.{File, is_class_path}
use Rattle.dj_edge.specs.trusted.Counts.{AllDiffer}

abbrev pub String : Type 0
String = string_declared.String Global

-- a path with its bytes
abbrev pub file_in : String × Vec ℕ → File
file_in file = (string_bytes file.0, file.1.items)

abbrev pub files_in : List (String × Vec ℕ) → List File
files_in held = map file_in held

-- no path appears twice
abbrev pub PathsDiffer : List File → Type 0
PathsDiffer files = AllDiffer (map (λ file. file.0) files)

-- the list as it is, or from its end
abbrev pub in_order : {A : Type 0} → Order → List A → List A
in_order Given xs = xs
in_order Reversed xs = reverse xs

-- the paths of the class files in the folder or below it, in the order of the list
abbrev pub class_paths : List ℕ → List File → List (List ℕ)
class_paths folder files = map (λ file. file.0) (filter (λ file. is_class_path folder file.0) files)

-- the call of this number is one of those that fail
abbrev pub is_failing : List ℕ → ℕ → Bool
is_failing failing number = list_any (λ n. n == number) failing
