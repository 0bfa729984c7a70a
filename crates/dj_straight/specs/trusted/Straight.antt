-- Straight sets: at most one class, whose methods are static and have straight code, from an array of bytes to one.
use Rattle.std.specs.Prelude.{◌≡◌, ◌≢◌, ℕ, Bool, false, List, [], ◌∷◌, map, Option, Some, None, codes, nat_eq, if◌then◌else◌, IsFalse, AllPairs}
use Rattle.std.specs.Cmp.Lexicographic.{pointwise}
use Rattle.std.specs.Int.{IsBitSet}
use Rattle.std.specs.List.{list_any, flat_map, starts_with}
use Rattle.dj_edge.specs.trusted.Held.{File}
use Rattle.dj_ops.specs.declared.instruction.Instr.{Instr}
use Rattle.dj_straight.specs.trusted.Cuts.{AreInstructions}
use Rattle.dj_pool.specs.trusted.Pool.{Constant, text_at, class_name_at}
use Rattle.dj_class.specs.trusted.Access as access
use Rattle.dj_class.specs.trusted.ClassFile.{AttributeInfo, MemberInfo, ClassFile, IsClassFile}
use Rattle.dj_class.specs.trusted.Code.{CodeInfo, IsCode}
use Rattle.dj_straight.specs.trusted.Instructions.{instruction_of}
use Rattle.dj_straight.specs.trusted.Program.{Program, Class, Method, Code, Runs}
use Rattle.dj_straight.specs.trusted.Methods.{straight_descriptor, object_name}
use Rattle.dj_file_rules.specs.trusted.Violations.{this_name}

-- the text at the index of the attribute's name is this one
abbrev pub is_named : List Constant → List ℕ → AttributeInfo → Bool
is_named pool name a = is_text (text_at pool a.name) where
  is_text : Option (List ℕ) → Bool
  is_text None = false
  is_text (Some text) = pointwise nat_eq text name

-- the bodies of the attributes of this name
abbrev pub bodies_of : List Constant → List ℕ → List AttributeInfo → List (List ℕ)
bodies_of pool name attributes = flat_map (λ a. if is_named pool name a then a.body ∷ [] else []) attributes

-- JVMS 4.7.3: straight instructions alone, no handlers and no stack map
pub record IsStraightCode (pool : List Constant) (info : CodeInfo) (code : Code) : Type 0 where
  pub no_handlers : info.table ≡ []
  pub no_frames : bodies_of pool (codes "StackMapTable") info.attributes ≡ []
  pub instrs : List Instr
  pub cut : AreInstructions info.code 0 instrs
  pub code_is : code ≡ record {
    max_stack = info.max_stack;
    max_locals = info.max_locals;
    instructions = map instruction_of instrs;
    ranges = [];
    frames = Some [];
  }

-- the body of a Code attribute with straight code
abbrev pub IsStraightBody : List Constant → List ℕ → Code → Type 0
IsStraightBody pool body code = (info : CodeInfo) × IsCode body info × IsStraightCode pool info code

-- exactly one of the attributes is a Code attribute, and it has straight code
pub record HasStraightCode (pool : List Constant) (attributes : List AttributeInfo) (code : Code) : Type 0 where
  pub body : List ℕ
  pub one_code : bodies_of pool (codes "Code") attributes ≡ body ∷ []
  pub straight : IsStraightBody pool body code

-- JVMS 4.6: the method is static, neither native nor abstract, and from an array of bytes to one;
-- it has this name, which isn't a special method's (JVMS 2.9)
pub record IsPlainMethod (pool : List Constant) (m : MemberInfo) (name : List ℕ) : Type 0 where
  pub is_static : IsBitSet m.flags access.static
  pub not_native : IsBitSet m.flags access.native → ⊥
  pub not_abstract : IsBitSet m.flags access.abstract → ⊥
  pub name_is : text_at pool m.name ≡ Some name
  pub not_special : IsFalse (starts_with nat_eq name (codes "<"))
  pub desc : text_at pool m.desc ≡ Some straight_descriptor

pub record IsStraightMethod (pool : List Constant) (m : MemberInfo) (method : Method) : Type 0 where
  pub plain : IsPlainMethod pool m method.name
  pub code : Code
  pub has_code : HasStraightCode pool m.attributes code
  pub method_is : method ≡ record { flags = m.flags; name = method.name; desc = straight_descriptor; body = Runs code }

abbrev pub AreStraightMethods : List Constant → List MemberInfo → List Method → Type 0
AreStraightMethods pool [] [] = Unit {0}
AreStraightMethods pool (m ∷ ms) (method ∷ methods) = IsStraightMethod pool m method × AreStraightMethods pool ms methods
AreStraightMethods pool _ _ = ⊥

-- the methods are these straight ones, and no two have the same name
pub record AreDistinctMethods (pool : List Constant) (ms : List MemberInfo) (methods : List Method) : Type 0 where
  pub straight : AreStraightMethods pool ms methods
  pub names_differ : AllPairs (λ (a b : Method). a.name ≢ b.name) methods

abbrev pub reserved_packages : List (List ℕ)
reserved_packages = codes "sandbox/" ∷ codes "java/" ∷ codes "javax/" ∷ []

abbrev pub is_reserved : List ℕ → Bool
is_reserved name = list_any (starts_with nat_eq name) reserved_packages

-- JVMS 4.1: the class is no interface, is in no package of the sandbox or of the library, has Object as its superclass, and has no interfaces and no fields
pub record IsPlainClass (c : ClassFile) : Type 0 where
  pub no_interface : IsBitSet c.flags access.interface → ⊥
  pub own_package : IsFalse (is_reserved (this_name c))
  pub superclass : class_name_at c.pool c.super_class ≡ Some object_name
  pub no_interfaces : c.interfaces ≡ []
  pub no_fields : c.fields ≡ []

pub record IsStraightClass (c : ClassFile) (class : Class) : Type 0 where
  pub plain : IsPlainClass c
  pub methods : AreDistinctMethods c.pool c.methods class.methods
  pub class_is : class ≡ record {
    name = this_name c;
    flags = c.flags;
    superclass = Some object_name;
    interfaces = [];
    fields = [];
    methods = class.methods;
  }

-- the bytes spell a class file, and this is its straight class
abbrev pub IsStraightFile : List ℕ → Class → Type 0
IsStraightFile bytes class = (c : ClassFile) × IsClassFile bytes c × IsStraightClass c class

-- the files are a straight set, and this is its program
abbrev pub IsStraightSet : List File → Program → Type 0
IsStraightSet [] program = program ≡ []
IsStraightSet (file ∷ []) program = (class : Class) × IsStraightFile file.1 class × (program ≡ class ∷ [])
IsStraightSet (file ∷ other ∷ files) program = ⊥

-- the files are no straight set
abbrev pub IsNotStraight : List File → Type 0
IsNotStraight files = (program : Program) → IsStraightSet files program → ⊥
