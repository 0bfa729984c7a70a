-- What a store of files holds, and which of its paths name class files of a folder.
use Rattle.std.specs.Prelude.{ℕ, Bool, ◌&&◌, List, ◌++◌, Option, codes, filter, nat_eq}
use Rattle.std.specs.Ordering.{nat_cmp}
use Rattle.std.specs.Cmp.Lexicographic.{slice_cmp}
use Rattle.std.specs.FinMap.{FinMap, get, entries}
use Rattle.std.specs.List.{starts_with, ends_with}

-- the store's contents: bytes by path, each path once, in the order of the paths' bytes
abbrev pub Held : Type 0
Held = FinMap (slice_cmp nat_cmp) (List ℕ)

-- a path with its bytes
abbrev pub File : Type 0
File = List ℕ × List ℕ

-- the bytes held under the path
abbrev pub bytes_at : Held → List ℕ → Option (List ℕ)
bytes_at held path = get held path

-- the path begins with the folder and a slash, and ends with .class
abbrev pub is_class_path : List ℕ → List ℕ → Bool
is_class_path folder path = starts_with nat_eq path (folder ++ codes "/") && ends_with nat_eq path (codes ".class")

-- the held class files in the folder or below it, in the order of their paths' bytes
abbrev pub class_files : List ℕ → Held → List File
class_files folder held = filter (λ file. is_class_path folder file.0) (entries held)
