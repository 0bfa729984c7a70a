-- What is refused when classes are loaded: names that they share, classes whose superclass or interface is absent, and classes that are above
-- themselves (JVMS 5.3.5).
use Rattle.std.specs.Prelude.{◌≡◌, ℕ, zero, suc, ◌^◌, ◌<◌, ⊤, List, ◌++◌, map, length, None, Contains, IsFalse}
use Rattle.std.specs.List.{flat_map}
use Rattle.dj_names.specs.trusted.Types.{Name}
use Rattle.dj_names.specs.trusted.Library.{Library, LibraryClass}
use Rattle.dj_class.specs.trusted.ClassFile.{ClassFile}
use Rattle.dj_model.specs.trusted.Types.{string_name}
use Rattle.dj_model.specs.trusted.Program.{Class, Method, Field, class_at}
use Rattle.dj_model.specs.trusted.Linking.{option_list}
use Rattle.dj_model.specs.trusted.Libraries.{library_class, is_name_before}
use Rattle.dj_declarations.specs.trusted.Files.{declared_class}
use Rattle.dj_class_table.specs.Tables.{IsShared, IsLeastShared}
use Rattle.dj_class_table.specs.declared.error.TableError.{TableError}
use Rattle.dj_class_table.specs.declared.error.TableError.TheVariants as table_errors
use Rattle.dj_resolution.specs.declared.linker.BaseNames.{BaseNames}
use Rattle.dj_resolution.specs.Linked.{prefix_of}
use Rattle.dj_loader.specs.declared.error.LoadError.{LoadError}
use Rattle.dj_loader.specs.declared.error.LoadError.TheVariants as errors

-- the classes of the files and those of the library
abbrev pub all_classes : Library → List ClassFile → List Class
all_classes library files = map declared_class files ++ map library_class library

abbrev pub methods_of : Class → List Method
methods_of c = c.methods

abbrev pub fields_of : Class → List Field
fields_of c = c.fields

-- the library has the class String, where its names begin with this prefix
pub record HasStringIn (library : Library) (base : BaseNames) : Type 0 where
  pub class : LibraryClass
  pub there : Contains library class
  pub named : class.name ≡ string_name (prefix_of base)

-- there are numbers of 32 bits for all members
pub record AreFewMembers (classes : List Class) : Type 0 where
  pub methods : length (flat_map methods_of classes) < 2 ^ 32
  pub fields : length (flat_map fields_of classes) < 2 ^ 32

-- ---- what is above a class

-- its superclass, where it has one, and the interfaces that it lists
abbrev pub above_names : Class → List Name
above_names c = option_list c.superclass ++ c.interfaces

-- a class of this name has that one right above it
pub record StandsUnder (classes : List Class) (name above : Name) : Type 0 where
  pub class : Class
  pub there : Contains classes class
  pub named : class.name ≡ name
  pub listed : Contains (above_names class) above

-- one that isn't there
abbrev pub LacksAbove : List Class → Name → Type 0
LacksAbove classes name = (above : Name) × StandsUnder classes name above × (class_at classes above ≡ None)

-- with this many classes between them
abbrev pub StandsBelow : ℕ → List Class → Name → Name → Type 0
StandsBelow zero classes name above = StandsUnder classes name above
StandsBelow (suc n) classes name above = (between : Name) × StandsUnder classes name between × StandsBelow n classes between above

abbrev pub IsOwnAncestor : List Class → Name → Type 0
IsOwnAncestor classes name = (n : ℕ) × StandsBelow n classes name name

-- ---- refusals

-- the least name of which a condition holds, in the order of bytes
pub record IsLeast (IsSuch : Name → Type 0) (name : Name) : Type 0 where
  pub such : IsSuch name
  pub least : (other : Name) → IsSuch other → IsFalse (is_name_before other name)

abbrev pub Never : (Name → Type 0) → Type 0
Never IsSuch = (name : Name) → IsSuch name → ⊥

pub record IsLoadable (classes : List Class) : Type 0 where
  pub differ : Never (IsShared classes)
  pub whole : Never (LacksAbove classes)
  pub acyclic : Never (IsOwnAncestor classes)

-- in this order
abbrev pub RefusesLoad : List Class → LoadError → Type 0
RefusesLoad classes (errors.Duplicate name) = IsLeastShared classes name
RefusesLoad classes (errors.NoSuper name) = Never (IsShared classes) × IsLeast (LacksAbove classes) name
RefusesLoad classes (errors.Cycle name) = Never (IsShared classes) × Never (LacksAbove classes) × IsLeast (IsOwnAncestor classes) name
RefusesLoad classes errors.Memory = ⊤

abbrev pub table_error : TableError → LoadError
table_error (table_errors.Duplicate name) = errors.Duplicate name
table_error table_errors.Memory = errors.Memory
