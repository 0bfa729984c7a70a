-- The class and the member that a constant names, and which classes and members the rules forbid.
use Rattle.std.specs.Prelude.{◌≡◌, ℕ, ◌≤◌, ◌⊎◌, List, codes, nat_eq, IsTrue, Option, Some, None, IsSomeAnd, option_and_then}
use Rattle.std.specs.List.{starts_with}
use Rattle.dj_names.specs.declared.descriptor.Of.{Of}
use Rattle.dj_names.specs.declared.descriptor.Of.TheVariants as ofs
use Rattle.dj_names.specs.declared.descriptor.Ty.{Ty}
use Rattle.dj_names.specs.declared.descriptor.Desc.TheVariants as descs
use Rattle.dj_names.specs.trusted.Names.{IsClassName}
use Rattle.dj_names.specs.trusted.Descriptors.{Describes}
use Rattle.dj_pool.specs.trusted.Pool.{Constant, Class, Field, Method, InterfaceMethod, constant_at, class_text_of, text_at, name_and_type_at}

-- ---- what a constant names

-- JVMS 4.4.1: the class of an array's element; Object where the element is of a base type
abbrev pub element_class : Of → List ℕ
element_class (ofs.Base base) = codes "java/lang/Object"
element_class (ofs.Class name) = name

-- the text of a class constant is the descriptor of an array with this element's class
pub record IsArrayOf (text class : List ℕ) : Type 0 where
  pub ty : Ty
  pub array : 1 ≤ ty.dims
  pub described : Describes text (descs.Field ty)
  pub element : class ≡ element_class ty.of

-- the class that the text of a class constant stands for: a class's name stands for itself, an array's descriptor for the class of its element
abbrev pub StandsFor : List ℕ → List ℕ → Type 0
StandsFor text class = (IsClassName text × (class ≡ text)) ⊎ IsArrayOf text class

-- the index of the text of the class that a constant names: a class constant's own, and that of the class of a field or a method
abbrev pub class_text_index : List Constant → Constant → Option ℕ
class_text_index pool (Class name) = Some name
class_text_index pool (Field class name_and_type) = option_and_then class_text_of (constant_at pool class)
class_text_index pool (Method class name_and_type) = option_and_then class_text_of (constant_at pool class)
class_text_index pool (InterfaceMethod class name_and_type) = option_and_then class_text_of (constant_at pool class)
class_text_index pool _ = None

-- the name and the descriptor of the member that a constant names
abbrev pub names_at : List Constant → Constant → Option (List ℕ × List ℕ)
names_at pool (Field class name_and_type) = name_and_type_at pool name_and_type
names_at pool (Method class name_and_type) = name_and_type_at pool name_and_type
names_at pool (InterfaceMethod class name_and_type) = name_and_type_at pool name_and_type
names_at pool _ = None

-- ---- names

-- the text begins with these bytes
abbrev pub BeginsWith : List ℕ → List ℕ → Type 0
BeginsWith text prefix = IsTrue (starts_with nat_eq text prefix)

-- rule 4, SANDBOX_PACKAGE: names in the packages of the sandbox and of the library
abbrev pub IsReserved : List ℕ → Type 0
IsReserved name = BeginsWith name (codes "sandbox/") ⊎ (BeginsWith name (codes "java/") ⊎ BeginsWith name (codes "javax/"))

-- rule 10, REFLECTION: classes by which a program sees its own classes and the machine
abbrev pub IsReflective : List ℕ → Type 0
IsReflective name =
    (name ≡ codes "java/lang/Class")
    ⊎ ((name ≡ codes "java/lang/ClassLoader")
    ⊎ (BeginsWith name (codes "java/lang/reflect/")
    ⊎ BeginsWith name (codes "java/lang/invoke/")))

-- rule 10: getClass, the method that gives the class of an object
abbrev pub IsGetClass : List ℕ × List ℕ → Type 0
IsGetClass names = (names.0 ≡ codes "getClass") × (names.1 ≡ codes "()Ljava/lang/Class;")

-- rule 10: the text of a class constant stands for a class of reflection
pub record IsReflectiveText (text : List ℕ) : Type 0 where
  pub class : List ℕ
  pub stands : StandsFor text class
  pub reflective : IsReflective class

-- the text at the index does
abbrev pub NamesReflectiveText : List Constant → ℕ → Type 0
NamesReflectiveText pool index = IsSomeAnd (text_at pool index) IsReflectiveText

-- rule 10: the constant names a class of reflection, or the member that gives the class of an object
abbrev pub NamesReflective : List Constant → Constant → Type 0
NamesReflective pool k = IsSomeAnd (class_text_index pool k) (NamesReflectiveText pool)

abbrev pub NamesGetClass : List Constant → Constant → Type 0
NamesGetClass pool k = IsSomeAnd (names_at pool k) IsGetClass

-- rule 11, CATCH: the classes that no handler may catch
abbrev pub IsUncatchable : List ℕ → Type 0
IsUncatchable name =
    (name ≡ codes "java/lang/ThreadDeath")
    ⊎ ((name ≡ codes "java/lang/VirtualMachineError")
    ⊎ ((name ≡ codes "java/lang/StackOverflowError")
    ⊎ (name ≡ codes "java/lang/OutOfMemoryError")))
