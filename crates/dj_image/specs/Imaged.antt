-- An image: a program with its code, and the arrays and the texts that have numbers.
use Rattle.std.specs.Prelude.{◌≡◌, ◌↔◌, ℕ, ◌⊎◌, ◌≤◌, List, Some, Contains, slice_get, IsTrue}
use Rattle.dj_names.specs.declared.descriptor.Base.TheVariants as bases
use Rattle.dj_names.specs.declared.descriptor.Ty.{Ty}
use Rattle.dj_names.specs.trusted.Types.{base_array}
use Rattle.dj_model.specs.trusted.Types.{Prefix}
use Rattle.dj_model.specs.trusted.Instructions.{Named, AClass, AField, AMethod, AnInterfaceMethod, Instruction, GetStatic, PutStatic, GetField, PutField, Invoke, New, NewArray, CheckCast, InstanceOf, Other, PushText}
use Rattle.dj_model.specs.trusted.Program as programs
use Rattle.dj_model.specs.trusted.Program.{Program, Class, Method, Field, Code, Runs}
use Rattle.dj_numbering.specs.Typed.{Typed, is_known_of, arrays_rise}
use Rattle.dj_image.specs.Sources.{Source, program_of_sources}

pub record Imaged : Type 0 where
  pub sources : List Source
  pub prefix : Prefix
  pub arrays : List Ty
  pub texts : List (List ℕ)

abbrev pub program_of : Imaged → Program
program_of imaged = program_of_sources imaged.sources

abbrev pub typed_of : Imaged → Typed
typed_of imaged = record { program = program_of imaged; prefix = imaged.prefix; arrays = imaged.arrays }

-- ---- which arrays have numbers

-- the type that an operand names, if it names one
abbrev pub NamesType : Named → Ty → Type 0
NamesType (AClass class) ty = ty ≡ class
NamesType (AField m) ty = ty ≡ m.class
NamesType (AMethod m) ty = ty ≡ m.class
NamesType (AnInterfaceMethod m) ty = ty ≡ m.class
NamesType named ty = ⊥

-- the type that an instruction names or makes
abbrev pub UsesType : Instruction → Ty → Type 0
UsesType (GetStatic m) ty = ty ≡ m.class
UsesType (PutStatic m) ty = ty ≡ m.class
UsesType (GetField m) ty = ty ≡ m.class
UsesType (PutField m) ty = ty ≡ m.class
UsesType (Invoke mode m) ty = ty ≡ m.class
UsesType (New class) ty = ty ≡ class
UsesType (NewArray class element) ty = ty ≡ class
UsesType (CheckCast class) ty = ty ≡ class
UsesType (InstanceOf class) ty = ty ≡ class
UsesType (Other op named) ty = NamesType named ty
UsesType i ty = ⊥

-- an instruction of the program names or makes the type
pub record IsUsed (program : Program) (ty : Ty) : Type 0 where
  pub class : Class
  pub there : Contains program class
  pub method : Method
  pub own : Contains class.methods method
  pub code : Code
  pub runs : method.body ≡ Runs code
  pub instruction : Instruction
  pub stands : Contains code.instructions instruction
  pub uses : UsesType instruction ty

-- the array itself, or one whose elements it is, at whatever depth; none of more dimensions than a descriptor spells
pub record IsPartOf (ty whole : Ty) : Type 0 where
  pub array : 1 ≤ ty.dims
  pub few : ty.dims ≤ 255
  pub within : ty.dims ≤ whole.dims
  pub same : ty.of ≡ whole.of

-- arrays of bytes and of chars, and those of which an instruction uses one, where the class of the elements is there
abbrev pub IsNumberedArray : Program → Ty → Type 0
IsNumberedArray program ty =
    (ty ≡ base_array bases.Byte)
    ⊎ ((ty ≡ base_array bases.Char)
    ⊎ ((whole : Ty) × IsUsed program whole × IsPartOf ty whole × IsTrue (is_known_of program ty.of)))

-- ---- which texts have numbers

-- an instruction of the program pushes the text
pub record IsPushed (program : Program) (text : List ℕ) : Type 0 where
  pub class : Class
  pub there : Contains program class
  pub method : Method
  pub own : Contains class.methods method
  pub code : Code
  pub runs : method.body ≡ Runs code
  pub stands : Contains code.instructions (PushText text)

-- a field of the program begins with it
pub record IsValue (program : Program) (text : List ℕ) : Type 0 where
  pub class : Class
  pub there : Contains program class
  pub field : Field
  pub own : Contains class.fields field
  pub begins : field.constant ≡ Some (programs.Text text)

-- the arrays and the texts are exactly those that have numbers, the arrays in the order of their descriptors, and each array and text once
pub record IsNumbered (imaged : Imaged) : Type 0 where
  pub arrays : (ty : Ty) → Contains imaged.arrays ty ↔ IsNumberedArray (program_of imaged) ty
  pub rise : IsTrue (arrays_rise imaged.arrays)
  pub texts : (text : List ℕ) → Contains imaged.texts text ↔ (IsPushed (program_of imaged) text ⊎ IsValue (program_of imaged) text)
  pub once : (a b : ℕ) (text : List ℕ) → slice_get imaged.texts a ≡ Some text → slice_get imaged.texts b ≡ Some text → a ≡ b
