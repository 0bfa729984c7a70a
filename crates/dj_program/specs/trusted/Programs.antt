-- The program of class files and a library: a class for each file, with the code of its methods, and those of the library.
use Rattle.std.specs.Prelude.{◌≡◌, ◌⊎◌, List, [], ◌∷◌, map, IsTrue, IsFalse, ⊤}
use Rattle.dj_names.specs.trusted.Library.{Library}
use Rattle.dj_pool.specs.trusted.Pool.{Constant}
use Rattle.dj_class.specs.trusted.ClassFile.{MemberInfo, ClassFile}
use Rattle.dj_model.specs.trusted.Program.{Program, Class, Method, Field, Body, Abstract, Runs}
use Rattle.dj_model.specs.trusted.Libraries.{joined, library_program}
use Rattle.dj_declarations.specs.trusted.Files.{is_bodiless, declared_method, declared_field, declared_class}
use Rattle.dj_program.specs.trusted.Naming.{constant_in}
use Rattle.dj_program.specs.trusted.Codes.{CodeParts, code_in, IsMethodCode}

-- both lists have the same length, and the elements at each place are related
abbrev pub AreSideBySide : {A B : Type 0} → (A → B → Type 0) → List A → List B → Type 0
AreSideBySide {A} {B} Stand [] [] = ⊤
AreSideBySide {A} {B} Stand (a ∷ more) (b ∷ others) = Stand a b × AreSideBySide Stand more others
AreSideBySide {A} {B} Stand more others = ⊥

-- a method that is native or abstract has no code, and every other method has that of its Code attribute
abbrev pub IsBodyIn : List Constant → MemberInfo → Body → Type 0
IsBodyIn pool m body =
    (IsTrue (is_bodiless m.flags) × (body ≡ Abstract))
    ⊎ (IsFalse (is_bodiless m.flags) × (parts : CodeParts) × IsMethodCode pool m parts × (body ≡ Runs (code_in pool parts)))

pub record IsMethodIn (pool : List Constant) (m : MemberInfo) (method : Method) : Type 0 where
  pub body : Body
  pub is_body : IsBodyIn pool m body
  pub is : method ≡ record (declared_method pool m) { body = body }

abbrev pub field_in_file : List Constant → MemberInfo → Field
field_in_file pool f = record (declared_field pool f) { constant = constant_in pool f }

pub record IsClassIn (c : ClassFile) (class : Class) : Type 0 where
  pub methods : List Method
  pub each : AreSideBySide (IsMethodIn c.pool) c.methods methods
  pub is : class ≡ record (declared_class c) { fields = map (field_in_file c.pool) c.fields; methods = methods }

-- the files' classes and those of the library, in the order of their names
pub record IsProgramIn (library : Library) (files : List ClassFile) (program : Program) : Type 0 where
  pub classes : List Class
  pub each : AreSideBySide IsClassIn files classes
  pub is : program ≡ joined classes (library_program library)
