-- Class files (JVMS 4.1 to 4.7): the parts, the bytes that spell them, and which of them are valid. dj_pool defines the constant pool.
use Rattle.std.specs.Prelude.{◌≡◌, ℕ, ◌^◌, ◌<◌, ◌⊎◌, ⊤, List, [], ◌∷◌, ◌++◌, length, IsSomeAnd}
use Rattle.std.specs.List.{AllByRecursion}
use Rattle.dj_cursor.specs.trusted.Spelling.{u2, u4, table_bytes}
use Rattle.dj_names.specs.trusted.Names.{IsUnqualifiedName, IsMethodName, IsClassName}
use Rattle.dj_names.specs.trusted.Descriptors.{IsFieldDescriptor, IsMethodDescriptor}
use Rattle.dj_pool.specs.trusted.Pool.{Constant, pool_bytes, class_name_at, NamesText, IsPool}

-- ---- the parts

-- JVMS 4.7: an attribute, by the index of its name
pub record AttributeInfo : Type 0 where
  pub name : ℕ
  pub body : List ℕ

-- JVMS 4.5 and 4.6: a field or a method, by the indexes of its name and descriptor
pub record MemberInfo : Type 0 where
  pub flags : ℕ
  pub name : ℕ
  pub desc : ℕ
  pub attributes : List AttributeInfo

-- JVMS 4.1
pub record ClassFile : Type 0 where
  pub minor : ℕ
  pub major : ℕ
  pub pool : List Constant
  pub flags : ℕ
  pub this_class : ℕ
  pub super_class : ℕ
  pub interfaces : List ℕ
  pub fields : List MemberInfo
  pub methods : List MemberInfo
  pub attributes : List AttributeInfo

-- ---- the bytes

abbrev pub attribute_bytes : AttributeInfo → List ℕ
attribute_bytes a = u2 a.name ++ u4 (length a.body) ++ a.body

abbrev pub member_bytes : MemberInfo → List ℕ
member_bytes m = u2 m.flags ++ u2 m.name ++ u2 m.desc ++ table_bytes attribute_bytes m.attributes

-- CA FE BA BE, and the versions
abbrev pub header_bytes : ℕ → ℕ → List ℕ
header_bytes minor major = (202 ∷ 254 ∷ 186 ∷ 190 ∷ []) ++ u2 minor ++ u2 major

abbrev pub class_bytes : ClassFile → List ℕ
class_bytes c =
    header_bytes c.minor c.major ++ pool_bytes c.pool ++ u2 c.flags ++ u2 c.this_class ++ u2 c.super_class
    ++ table_bytes u2 c.interfaces ++ table_bytes member_bytes c.fields ++ table_bytes member_bytes c.methods
    ++ table_bytes attribute_bytes c.attributes

-- ---- which parts are valid

-- the class at the index is no array
abbrev pub NamesClass : List Constant → ℕ → Type 0
NamesClass pool index = IsSomeAnd (class_name_at pool index) IsClassName

pub record IsAttribute (pool : List Constant) (a : AttributeInfo) : Type 0 where
  pub name : NamesText (λ _. ⊤) pool a.name
  pub body : length a.body < 2 ^ 32

pub record AreAttributes (pool : List Constant) (attributes : List AttributeInfo) : Type 0 where
  pub count : length attributes < 2 ^ 16
  pub each : AllByRecursion (IsAttribute pool) attributes

-- a field or a method, whose name and descriptor meet these conditions
pub record IsMember (IsName IsDescriptor : List ℕ → Type 0) (pool : List Constant) (m : MemberInfo) : Type 0 where
  pub flags : m.flags < 2 ^ 16
  pub name : NamesText IsName pool m.name
  pub desc : NamesText IsDescriptor pool m.desc
  pub attributes : AreAttributes pool m.attributes

-- JVMS 4.5
abbrev pub IsField : List Constant → MemberInfo → Type 0
IsField = IsMember IsUnqualifiedName IsFieldDescriptor

-- JVMS 4.6
abbrev pub IsMethod : List Constant → MemberInfo → Type 0
IsMethod = IsMember IsMethodName IsMethodDescriptor

pub record IsValid (c : ClassFile) : Type 0 where
  pub minor : c.minor < 2 ^ 16
  pub major : c.major < 2 ^ 16
  pub pool : IsPool c.pool
  pub flags : c.flags < 2 ^ 16
  pub this_class : NamesClass c.pool c.this_class
  pub super_class : (c.super_class ≡ 0) ⊎ NamesClass c.pool c.super_class
  pub interface_count : length c.interfaces < 2 ^ 16
  pub interfaces : AllByRecursion (NamesClass c.pool) c.interfaces
  pub field_count : length c.fields < 2 ^ 16
  pub fields : AllByRecursion (IsField c.pool) c.fields
  pub method_count : length c.methods < 2 ^ 16
  pub methods : AllByRecursion (IsMethod c.pool) c.methods
  pub attributes : AreAttributes c.pool c.attributes

-- the bytes spell the class file, and nothing follows
pub record IsClassFile (bytes : List ℕ) (c : ClassFile) : Type 0 where
  pub spelled : bytes ≡ class_bytes c
  pub valid : IsValid c

-- the bytes are no class file
abbrev pub IsMalformed : List ℕ → Type 0
IsMalformed bytes = (c : ClassFile) → IsClassFile bytes c → ⊥
