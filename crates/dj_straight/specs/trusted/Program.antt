-- Programs: classes by their names, with what the machine needs of them (JVMS 2.5.5, 4.1, 4.5, 4.6, 4.7.3 and 4.7.4).
use Rattle.std.specs.Prelude.{ℕ, zero, suc, ◌&&◌, Bool, true, false, ℤ, List, [], ◌∷◌, ◌++◌, length, Option, Some, None, codes, nat_eq, if◌then◌else◌}
use Rattle.std.specs.Int.{bit_at}
use Rattle.std.specs.Cmp.Lexicographic.{pointwise}
use Rattle.std.specs.List.{list_any, flat_map}
use Rattle.dj_names.specs.declared.descriptor.Kind.{Kind}
use Rattle.dj_class.specs.trusted.Access as access
use Rattle.dj_names.specs.declared.descriptor.Kind.TheVariants as kinds
use Rattle.dj_straight.specs.trusted.Instructions.{Instruction}
use Rattle.dj_straight.specs.trusted.StackMaps.{StackMapFrame}

-- the bytes of a name, a descriptor or a text
abbrev pub Name : Type 0
Name = List ℕ

abbrev pub same_name : Name → Name → Bool
same_name a b = pointwise nat_eq a b

-- a handler, for the instructions from start on and before end; it catches one class and its subclasses, or all classes
pub record Range : Type 0 where
  pub start : ℕ
  pub end : ℕ
  pub handler : ℕ
  pub catches : Option Name

-- JVMS 4.7.3; instructions are numbered from 0
pub record Code : Type 0 where
  pub max_stack : ℕ
  pub max_locals : ℕ
  pub instructions : List Instruction
  pub ranges : List Range
  -- JVMS 4.7.4: the frames of the code's stack map; an empty list where there is no such attribute,
  -- and none where the attribute is no stack map
  pub frames : Option (List StackMapFrame)

pub data Body : Type 0 where
  Abstract : Body
  Runs : Code → Body

pub record Method : Type 0 where
  pub flags : ℕ
  pub name : Name
  pub desc : Name
  pub body : Body

-- JVMS 4.7.2: the value with which a static field begins
pub data Constant : Type 0 where
  Int : ℤ → Constant
  Long : ℤ → Constant
  Text : List ℕ → Constant

pub record Field : Type 0 where
  pub flags : ℕ
  pub name : Name
  pub desc : Name
  pub constant : Option Constant

pub record Class : Type 0 where
  pub name : Name
  pub flags : ℕ
  pub superclass : Option Name
  pub interfaces : List Name
  pub fields : List Field
  pub methods : List Method

-- classes with different names
abbrev pub Program : Type 0
Program = List Class

-- the class of a name
abbrev pub class_at : Program → Name → Option Class
class_at [] name = None
class_at (c ∷ classes) name = if same_name c.name name then Some c else class_at classes name

-- a method, by its class, its name and its descriptor
pub record MethodName : Type 0 where
  pub class : Name
  pub name : Name
  pub desc : Name

-- JVMS table 4.6-A
abbrev pub is_static : ℕ → Bool
is_static flags = nat_eq (bit_at flags access.static) 1

abbrev pub method_in : List Method → Name → Name → Option Method
method_in [] name desc = None
method_in (m ∷ methods) name desc = if same_name m.name name && same_name m.desc desc then Some m else method_in methods name desc

abbrev pub body_code : Body → Option Code
body_code Abstract = None
body_code (Runs code) = Some code

abbrev pub code_in : Option Method → Option Code
code_in None = None
code_in (Some m) = body_code m.body

abbrev pub class_code : Option Class → Name → Name → Option Code
class_code None name desc = None
class_code (Some c) name desc = code_in (method_in c.methods name desc)

-- the code of a method, where it has one
unfoldable pub code_of : Program → MethodName → Option Code
code_of program method = class_code (class_at program method.class) method.name method.desc

abbrev pub fields_of : Option Class → List Field
fields_of None = []
fields_of (Some c) = c.fields

-- JVMS table 4.3-A: the first characters of a descriptor, and the kind of the values; floats and doubles have none
abbrev pub kind_rows : List (List ℕ × Kind)
kind_rows = (codes "BCISZ", kinds.Int) ∷ (codes "J", kinds.Long) ∷ (codes "L[", kinds.Ref) ∷ []

abbrev pub kind_in : List (List ℕ × Kind) → ℕ → Option Kind
kind_in [] first = None
kind_in (row ∷ rest) first = if list_any (nat_eq first) row.0 then Some row.1 else kind_in rest first

-- the kind of a field's values, by its descriptor
abbrev pub field_kind : Name → Option Kind
field_kind [] = None
field_kind (first ∷ rest) = kind_in kind_rows first

abbrev pub superclass_of : Option Class → Option Name
superclass_of None = None
superclass_of (Some c) = c.superclass

-- a class and its superclasses upward, at most this many
unfoldable pub chain_of : ℕ → Program → Option Name → List Name
chain_of zero program class = []
chain_of (suc n) program None = []
chain_of (suc n) program (Some class) = class ∷ chain_of n program (superclass_of (class_at program class))

-- a class and its superclasses upward, up to one that the program doesn't have
abbrev pub chain : Program → Name → List Name
chain program class = chain_of (suc (length program)) program (Some class)

abbrev pub interfaces_of : Option Class → List Name
interfaces_of None = []
interfaces_of (Some c) = c.interfaces

abbrev pub option_list : {A : Type 0} → Option A → List A
option_list None = []
option_list (Some x) = x ∷ []

-- a class or an interface and all above it, down to at most this many levels
unfoldable pub ancestors_of : ℕ → Program → Name → List Name
ancestors_of zero program class = []
ancestors_of (suc n) program class =
    class ∷ flat_map (ancestors_of n program) (option_list (superclass_of (class_at program class)) ++ interfaces_of (class_at program class))

-- JVMS 4.10.1.2, for classes and interfaces: the first is the second or is below it
unfoldable pub is_subclass : Program → Name → Name → Bool
is_subclass program class ancestor = list_any (same_name ancestor) (ancestors_of (suc (length program)) program class)

-- JVMS 2.9: the initialiser of a class
abbrev pub initialiser_name : Name
initialiser_name = codes "<clinit>"

abbrev pub initialiser_of : Name → MethodName
initialiser_of class = record { class = class; name = initialiser_name; desc = codes "()V" }

abbrev pub runs_static : Option Method → Bool
runs_static None = false
runs_static (Some m) = is_static m.flags && has_code m.body where
  has_code : Body → Bool
  has_code Abstract = false
  has_code (Runs code) = true

abbrev pub class_has_initialiser : Option Class → Bool
class_has_initialiser None = false
class_has_initialiser (Some c) = runs_static (method_in c.methods initialiser_name (codes "()V"))

-- the class has a static method <clinit> with code, without parameters and result
unfoldable pub has_initialiser : Program → Name → Bool
has_initialiser program class = class_has_initialiser (class_at program class)

abbrev pub is_initialiser : MethodName → Bool
is_initialiser method = same_name method.name initialiser_name
