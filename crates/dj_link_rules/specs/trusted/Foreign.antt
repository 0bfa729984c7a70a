-- Rule 17, WHITELIST: an instruction uses a name in the library's packages that the library doesn't have. No file of a set defines such a class, by rule 4, SANDBOX_PACKAGE.
use Rattle.std.specs.Prelude.{◌≡◌, ◌⊎◌, List, codes, Some, IsSomeAnd, IsTrue, IsFalse}
use Rattle.dj_names.specs.declared.descriptor.Ty.{Ty}
use Rattle.dj_names.specs.trusted.Types.{Name}
use Rattle.dj_ops.specs.declared.instruction.Instr.{Instr}
use Rattle.dj_pool.specs.trusted.Pool.{Constant}
use Rattle.dj_model.specs.trusted.Types.{constructor_name}
use Rattle.dj_model.specs.trusted.Program.{Program, Class, class_at, is_interface}
use Rattle.dj_early_rules.specs.trusted.Classes.{BeginsWith}
use Rattle.dj_early_rules.specs.trusted.Instructions.{NamesSuch}
use Rattle.dj_declarations.specs.trusted.Members.{has_method_named}
use Rattle.dj_link_rules.specs.trusted.Named.{named_type, class_of_type, NamesNoClass, NamesNoMember, MakesSuch}

-- a name in the library's packages
abbrev pub IsOfLibrary : Name → Type 0
IsOfLibrary name = BeginsWith name (codes "java/") ⊎ BeginsWith name (codes "javax/")

abbrev pub NamesLibrary : List Constant → Constant → Type 0
NamesLibrary pool k = IsSomeAnd (named_type pool k) (λ ty. IsOfLibrary (class_of_type ty))

-- the constant's class has a name in the library's packages, and isn't there or lacks the member that the constant names
abbrev pub IsForeignConstant : Program → List Constant → Constant → Type 0
IsForeignConstant program pool k = NamesLibrary pool k × (NamesNoClass program pool k ⊎ NamesNoMember program pool k)

-- no object of the class can be made: it has no constructor, or is an interface
abbrev pub IsUnmakeable : Class → Type 0
IsUnmakeable c = IsFalse (has_method_named c.methods constructor_name) ⊎ IsTrue (is_interface c.flags)

-- a class of the library, not an array, of which no object can be made
pub record NamesUnmakeable (program : Program) (pool : List Constant) (k : Constant) : Type 0 where
  pub ty : Ty
  pub named : named_type pool k ≡ Some ty
  pub whole : ty.dims ≡ 0
  pub library : IsOfLibrary (class_of_type ty)
  pub class : Class
  pub there : class_at program (class_of_type ty) ≡ Some class
  pub such : IsUnmakeable class

-- an instruction: its constant is foreign, or it makes an object of a class of which none can be made
abbrev pub IsForeign : Program → List Constant → Instr → Type 0
IsForeign program pool instr = NamesSuch (IsForeignConstant program) pool instr ⊎ MakesSuch (NamesUnmakeable program) pool instr
