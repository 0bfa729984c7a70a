-- Members of classes, and the names of the library's classes.
use Rattle.std.specs.Prelude.{ℕ, Bool, false, List, [], ◌∷◌, ◌++◌, None, codes}
use Rattle.dj_names.specs.declared.descriptor.Ty.{Ty}
use Rattle.dj_names.specs.declared.descriptor.Desc.{Desc}
use Rattle.dj_names.specs.declared.descriptor.Desc.TheVariants as descs
use Rattle.dj_names.specs.declared.run.Raised.{Raised}
use Rattle.dj_names.specs.trusted.Values.{raised_class}
use Rattle.dj_names.specs.trusted.Types.{Name, same_type, class_type}
use Rattle.dj_names.specs.trusted.Library.{stop_class}

-- a field or a method as an instruction names it: the class where it is looked up, its name and its descriptor
pub record Member : Type 0 where
  pub class : Ty
  pub name : Name
  pub desc : Desc

-- a field or a method as a class declares it: the class, the name and the descriptor
pub record Declared : Type 0 where
  pub class : Name
  pub name : Name
  pub desc : Desc

-- ---- the library's classes

-- the prefix of the names of the library's classes: nothing, or the package of rewritten classes
abbrev pub Prefix : Type 0
Prefix = List ℕ

abbrev pub object_name : Prefix → Name
object_name prefix = prefix ++ codes "java/lang/Object"

abbrev pub string_name : Prefix → Name
string_name prefix = prefix ++ codes "java/lang/String"

abbrev pub throwable_name : Prefix → Name
throwable_name prefix = prefix ++ codes "java/lang/Throwable"

abbrev pub raised_type : Prefix → Raised → Ty
raised_type prefix raised = class_type (prefix ++ raised_class raised)

-- the class of the object that stops a run; only a program of rewritten classes has one
abbrev pub is_stop : Prefix → Ty → Bool
is_stop [] class = false
is_stop (byte ∷ prefix) class = same_type class (class_type stop_class)

-- ---- members with names of their own

-- JVMS 2.9
abbrev pub initialiser_name : Name
initialiser_name = codes "<clinit>"

abbrev pub constructor_name : Name
constructor_name = codes "<init>"

-- no parameters and no result
abbrev pub no_parameters : Desc
no_parameters = descs.Method [] None
