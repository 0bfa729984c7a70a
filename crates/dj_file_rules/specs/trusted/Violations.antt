-- The rules, each as a condition on a possible line of the report. A file is its path within the folder, with its bytes.
use Rattle.std.specs.Prelude.{◌≡◌, ℕ, ◌<◌, ◌⊎◌, List, [], ◌++◌, Some, Contains, codes, unwrap_or}
use Rattle.std.specs.List.{flat_map}
use Rattle.std.specs.Int.{IsBitSet}
use Rattle.std.specs.Str.{chars}
use Rattle.std.specs.Char.Escape.{encode_utf16}
use Rattle.dj_edge.specs.trusted.Held.{File}
use Rattle.dj_names.specs.trusted.ModifiedUtf8.{SpellsUnits}
use Rattle.dj_pool.specs.trusted.Pool.{Constant, text_at, class_name_at}
use Rattle.dj_class.specs.trusted.Access as access
use Rattle.dj_class.specs.trusted.ClassFile.{MemberInfo, ClassFile, IsClassFile, IsMalformed}
pub use Rattle.dj_class.specs.trusted.Names.{this_name}
use Rattle.dj_report.specs.declared.report.Violation.{Violation}
use Rattle.dj_report.specs.trusted.Lines.{file_line, member_line, AreExactly}

-- the name of a member, followed by its descriptor
abbrev pub member_text : List Constant → MemberInfo → List ℕ
member_text pool m = unwrap_or (text_at pool m.name) [] ++ unwrap_or (text_at pool m.desc) []

-- the UTF-16 units of a text in UTF-8
abbrev pub path_units : List ℕ → List ℕ
path_units path = flat_map encode_utf16 (chars path)

-- the path's units are those of the class's name and then of .class
pub record IsNamedAs (path name : List ℕ) : Type 0 where
  pub units : List ℕ
  pub spelled : SpellsUnits name units
  pub same : path_units path ≡ units ++ codes ".class"

-- JVMS table 4.6-A: the method has ACC_NATIVE
abbrev pub IsNative : MemberInfo → Type 0
IsNative m = IsBitSet m.flags access.native

-- finalize()V, which the garbage collector of a JVM would call
abbrev pub IsFinalizer : List Constant → MemberInfo → Type 0
IsFinalizer pool m = (text_at pool m.name ≡ Some (codes "finalize")) × (text_at pool m.desc ≡ Some (codes "()V"))

-- rule 2, VERSION: a major version other than 50, 51 and 52
abbrev pub HasOtherVersion : ClassFile → Type 0
HasOtherVersion c = (c.major < 50) ⊎ (52 < c.major)

-- the line is that of a method of the class file that meets the condition
pub record IsMethodLine (IsSuch : List Constant → MemberInfo → Type 0) (path : List ℕ) (rule : ℕ) (c : ClassFile) (v : Violation) : Type 0 where
  pub method : MemberInfo
  pub own : Contains c.methods method
  pub such : IsSuch c.pool method
  pub line : v ≡ member_line path (member_text c.pool method) rule

-- a line of a file that is this class file: rules 2, 3 NAME, 7 NATIVE and 8 FINALIZER
abbrev pub IsClassLine : List ℕ → ClassFile → Violation → Type 0
IsClassLine path c v =
    (HasOtherVersion c × (v ≡ file_line path 2))
    ⊎ (((IsNamedAs path (this_name c) → ⊥) × (v ≡ file_line path 3))
    ⊎ (IsMethodLine (λ _ m. IsNative m) path 7 c v
    ⊎ IsMethodLine IsFinalizer path 8 c v))

-- a line of the file: rule 1, MALFORMED, or those of a class file
abbrev pub IsLineOf : File → Violation → Type 0
IsLineOf file v =
    (IsMalformed file.1 × (v ≡ file_line file.0 1))
    ⊎ ((c : ClassFile) × IsClassFile file.1 c × IsClassLine file.0 c v)

-- the line is that of one of the files
abbrev pub IsViolation : List File → Violation → Type 0
IsViolation files v = (file : File) × Contains files file × IsLineOf file v

-- all violations of the files, in order, each once
abbrev pub AreViolations : List File → List Violation → Type 0
AreViolations files = AreExactly (IsViolation files)
