-- Programs: classes by their names (JVMS 2.5.5, 4.1, 4.5, 4.6, 4.7.3 and 4.7.4).
use Rattle.std.specs.Prelude.{ℕ, ◌&&◌, Bool, true, false, ℤ, List, [], ◌∷◌, Option, Some, None, nat_eq, if◌then◌else◌}
use Rattle.std.specs.Int.{bit_at}
use Rattle.dj_names.specs.declared.descriptor.Desc.{Desc}
use Rattle.dj_names.specs.declared.native.NativeId.{NativeId}
use Rattle.dj_names.specs.trusted.Types.{Name, same_name, same_desc}
use Rattle.dj_ops.specs.declared.frames.Frame.{Frame}
use Rattle.dj_model.specs.trusted.Types.{Declared, initialiser_name, no_parameters}
use Rattle.dj_model.specs.trusted.Instructions.{Instruction, Named}

-- a handler, for the instructions from start on and before end; instructions are numbered from 0
pub record Range : Type 0 where
  pub start : ℕ
  pub end : ℕ
  pub handler : ℕ
  -- the class whose objects it catches, by what its index names; none where it catches all
  pub catches : Option Named

-- JVMS 4.7.3
pub record Code : Type 0 where
  pub max_stack : ℕ
  pub max_locals : ℕ
  pub instructions : List Instruction
  pub ranges : List Range
  -- JVMS 4.7.4: the frames of the code's stack map; an empty list where there is no such attribute,
  -- and none where the attribute is no stack map
  pub frames : Option (List Frame)

pub data Body : Type 0 where
  Abstract : Body
  Native : NativeId → Body
  Runs : Code → Body

pub record Method : Type 0 where
  pub flags : ℕ
  pub name : Name
  pub desc : Desc
  pub body : Body

-- JVMS 4.7.2: the value with which a static field begins
pub data Constant : Type 0 where
  Int : ℤ → Constant
  Long : ℤ → Constant
  Text : List ℕ → Constant
  -- a constant that doesn't fit the field, and sets nothing
  Unfit : Constant

pub record Field : Type 0 where
  pub flags : ℕ
  pub name : Name
  pub desc : Desc
  pub constant : Option Constant

pub record Class : Type 0 where
  pub name : Name
  pub flags : ℕ
  pub superclass : Option Name
  pub interfaces : List Name
  -- how many instance fields there are that only native methods use; they come before the others
  pub unnamed_fields : ℕ
  pub fields : List Field
  pub methods : List Method

-- classes, in the order of their names' bytes
abbrev pub Program : Type 0
Program = List Class

-- ---- flags (JVMS tables 4.1-A, 4.5-A and 4.6-A)

abbrev pub has_flag : ℕ → ℕ → Bool
has_flag bit flags = nat_eq (bit_at flags bit) 1

-- 0x0002
abbrev pub is_private : ℕ → Bool
is_private flags = has_flag 1 flags

-- 0x0008
abbrev pub is_static : ℕ → Bool
is_static flags = has_flag 3 flags

-- 0x0200
abbrev pub is_interface : ℕ → Bool
is_interface flags = has_flag 9 flags

-- 0x0400
abbrev pub is_abstract : ℕ → Bool
is_abstract flags = has_flag 10 flags

-- ---- classes and members by their names

abbrev pub class_at : Program → Name → Option Class
class_at [] name = None
class_at (c ∷ classes) name = if same_name c.name name then Some c else class_at classes name

abbrev pub is_named : Name → Desc → Name → Desc → Bool
is_named name desc n d = same_name n name && same_desc d desc

abbrev pub method_in : List Method → Name → Desc → Option Method
method_in [] name desc = None
method_in (m ∷ methods) name desc = if is_named name desc m.name m.desc then Some m else method_in methods name desc

abbrev pub field_in : List Field → Name → Desc → Option Field
field_in [] name desc = None
field_in (f ∷ fields) name desc = if is_named name desc f.name f.desc then Some f else field_in fields name desc

abbrev pub method_of : Option Class → Name → Desc → Option Method
method_of None name desc = None
method_of (Some c) name desc = method_in c.methods name desc

abbrev pub field_of : Option Class → Name → Desc → Option Field
field_of None name desc = None
field_of (Some c) name desc = field_in c.fields name desc

abbrev pub superclass_of : Option Class → Option Name
superclass_of None = None
superclass_of (Some c) = c.superclass

abbrev pub interfaces_of : Option Class → List Name
interfaces_of None = []
interfaces_of (Some c) = c.interfaces

abbrev pub fields_of : Option Class → List Field
fields_of None = []
fields_of (Some c) = c.fields

abbrev pub flags_of : Option Class → ℕ
flags_of None = 0
flags_of (Some c) = c.flags

-- a method that the program has
abbrev pub method_at : Program → Declared → Option Method
method_at program m = method_of (class_at program m.class) m.name m.desc

abbrev pub body_code : Body → Option Code
body_code (Runs code) = Some code
body_code _ = None

abbrev pub code_in : Option Method → Option Code
code_in None = None
code_in (Some m) = body_code m.body

-- the code of a method, where it has one
unfoldable pub code_of : Program → Declared → Option Code
code_of program m = code_in (method_at program m)

-- ---- initialisers (JVMS 2.9)

abbrev pub initialiser_of : Name → Declared
initialiser_of class = record { class = class; name = initialiser_name; desc = no_parameters }

-- whether this is an initialiser, by its name and its descriptor
abbrev pub is_initialiser : Declared → Bool
is_initialiser m = is_named initialiser_name no_parameters m.name m.desc

abbrev pub has_code : Body → Bool
has_code (Runs code) = true
has_code _ = false

abbrev pub runs_static : Option Method → Bool
runs_static None = false
runs_static (Some m) = is_static m.flags && has_code m.body

-- the class has a static method <clinit> without parameters and result, and with code
unfoldable pub has_initialiser : Program → Name → Bool
has_initialiser program class = runs_static (method_at program (initialiser_of class))
