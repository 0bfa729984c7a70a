-- What the rule HIERARCHY looks at in a class file: its name, its superclass and interfaces (JVMS 4.1), and whether two members are declared alike (JVMS 4.5 and 4.6).
use Rattle.std.specs.Prelude.{◌≡◌, ℕ, ◌<◌, ◌⊎◌, List, Contains, Some, slice_get}
use Rattle.dj_edge.specs.trusted.Held.{File}
use Rattle.dj_pool.specs.trusted.Pool.{Constant, text_at, class_name_at}
use Rattle.dj_class.specs.trusted.ClassFile.{MemberInfo, ClassFile}
pub use Rattle.dj_class.specs.trusted.Names.{names_in, interface_names}
use Rattle.dj_library.specs.trusted.Heads.{Head, library_heads}
use Rattle.dj_file_rules.specs.trusted.Violations.{this_name}
use Rattle.dj_early_rules.specs.trusted.Malformed.{IsGood}

-- ---- the head of a class file

-- the head of a class file; in a good one the superclass is none exactly where super_class is 0
abbrev pub head_of : ClassFile → Head
head_of c = record { name = this_name c; flags = c.flags; superclass = class_name_at c.pool c.super_class; interfaces = interface_names c }

-- the classes of the files that don't violate rule 1, and those of the library
abbrev pub IsClassAmong : List File → Head → Type 0
IsClassAmong files head = (file : File) × Contains files file × (c : ClassFile) × IsGood file.1 c × (head ≡ head_of c)

abbrev pub StandsAmong : List File → Head → Type 0
StandsAmong files head = IsClassAmong files head ⊎ Contains library_heads head

-- ---- members

-- two of the members have the same name and the same descriptor
pub record AreRepeated (pool : List Constant) (members : List MemberInfo) : Type 0 where
  pub first : ℕ
  pub other : ℕ
  pub apart : first < other
  pub one : MemberInfo
  pub one_is : slice_get members first ≡ Some one
  pub two : MemberInfo
  pub two_is : slice_get members other ≡ Some two
  pub name : text_at pool one.name ≡ text_at pool two.name
  pub desc : text_at pool one.desc ≡ text_at pool two.desc

-- two fields, or two methods, are declared alike
abbrev pub HasRepeats : ClassFile → Type 0
HasRepeats c = AreRepeated c.pool c.fields ⊎ AreRepeated c.pool c.methods
