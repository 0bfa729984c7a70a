-- The names that a class file has of itself and of the interfaces that it lists (JVMS 4.1).
use Rattle.std.specs.Prelude.{ℕ, List, [], ◌∷◌, Option, Some, None, unwrap_or}
use Rattle.std.specs.List.{flat_map}
use Rattle.dj_pool.specs.trusted.Pool.{class_name_at}
use Rattle.dj_class.specs.trusted.ClassFile.{ClassFile}

-- the name of the class that the file defines
abbrev pub this_name : ClassFile → List ℕ
this_name c = unwrap_or (class_name_at c.pool c.this_class) []

abbrev pub names_in : Option (List ℕ) → List (List ℕ)
names_in None = []
names_in (Some name) = name ∷ []

-- the names of the interfaces that it lists
abbrev pub interface_names : ClassFile → List (List ℕ)
interface_names c = flat_map (λ index. names_in (class_name_at c.pool index)) c.interfaces
