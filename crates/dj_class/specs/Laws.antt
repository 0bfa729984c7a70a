-- Laws of class files that hold whatever is read: what bytes can be, and which texts a valid class file has.
use Rattle.std.specs.Prelude.{◌≡◌, ℕ, ◌<◌, ◌⊎◌, ⊤, List, All, Option, Some, get_or}
use Rattle.dj_names.specs.trusted.Names.{IsUnqualifiedName, IsMethodName, IsClassName}
use Rattle.dj_names.specs.trusted.Descriptors.{IsFieldDescriptor, IsMethodDescriptor}
use Rattle.dj_pool.specs.trusted.Pool.{Constant, text_at, class_name_at}
use Rattle.dj_class.specs.declared.class.ClassError.{ClassError}
use Rattle.dj_class.specs.trusted.ClassFile.{AttributeInfo, MemberInfo, ClassFile, IsValid, IsClassFile, IsMalformed}
use Rattle.dj_class.specs.trusted.Code.{CodeInfo, IsCode}
use Rattle.dj_class.specs.Faults.{IsFault}
use Rattle.dj_class.specs.CodeFaults.{IsCodeFault}

-- each is below 256
abbrev pub AreBytes : List ℕ → Type 0
AreBytes bytes = (i : ℕ) → get_or bytes i 0 < 256

-- ---- files

-- bytes are one class file at most
abbrev pub OneClassFile : Type 0
OneClassFile = (bytes : List ℕ) (c d : ClassFile) → IsClassFile bytes c → IsClassFile bytes d → c ≡ d

-- bytes have one first fault at most
abbrev pub OneFault : Type 0
OneFault = (bytes : List ℕ) (d e : ClassError) → IsFault bytes d → IsFault bytes e → d ≡ e

-- a file with a fault is no class file
abbrev pub FaultyIsMalformed : Type 0
FaultyIsMalformed = (bytes : List ℕ) (e : ClassError) → IsFault bytes e → IsMalformed bytes

-- a file is a class file, or it has a fault
pub data ClassOrFault (bytes : List ℕ) : Type 0 where
  IsOne : (c : ClassFile) → IsClassFile bytes c → ClassOrFault bytes
  IsFaulty : (e : ClassError) → IsFault bytes e → ClassOrFault bytes

abbrev pub EachClassOrFault : Type 0
EachClassOrFault = (bytes : List ℕ) → AreBytes bytes → ClassOrFault bytes

-- ---- bodies of Code attributes

-- a body is one Code attribute's at most
abbrev pub OneCode : Type 0
OneCode = (body : List ℕ) (c d : CodeInfo) → IsCode body c → IsCode body d → c ≡ d

-- a body has one first fault at most
abbrev pub OneCodeFault : Type 0
OneCodeFault = (body : List ℕ) (d e : ClassError) → IsCodeFault body d → IsCodeFault body e → d ≡ e

-- a body with a fault is no Code attribute's
abbrev pub FaultyIsNoCode : Type 0
FaultyIsNoCode = (body : List ℕ) (e : ClassError) → IsCodeFault body e → (c : CodeInfo) → IsCode body c → ⊥

-- a body is a Code attribute's, or it has a fault
pub data CodeOrFault (body : List ℕ) : Type 0 where
  IsOneCode : (c : CodeInfo) → IsCode body c → CodeOrFault body
  IsFaultyCode : (e : ClassError) → IsCodeFault body e → CodeOrFault body

abbrev pub EachCodeOrFault : Type 0
EachCodeOrFault = (body : List ℕ) → AreBytes body → CodeOrFault body

-- ---- texts

-- there is a text, and it is so
pub record HasText (found : Option (List ℕ)) (P : List ℕ → Type 0) : Type 0 where
  pub text : List ℕ
  pub found_is : found ≡ Some text
  pub holds : P text

abbrev pub AttributesHaveTexts : List Constant → List AttributeInfo → Type 0
AttributesHaveTexts pool attributes = All (λ a. HasText (text_at pool a.name) (λ _. ⊤)) attributes

-- the texts of a field or a method
pub record MemberHasTexts (IsName IsDescriptor : List ℕ → Type 0) (pool : List Constant) (m : MemberInfo) : Type 0 where
  pub name : HasText (text_at pool m.name) IsName
  pub desc : HasText (text_at pool m.desc) IsDescriptor
  pub attributes : AttributesHaveTexts pool m.attributes

-- the texts of a class file
pub record ClassHasTexts (c : ClassFile) : Type 0 where
  pub this_class : HasText (class_name_at c.pool c.this_class) IsClassName
  pub super_class : (c.super_class ≡ 0) ⊎ HasText (class_name_at c.pool c.super_class) IsClassName
  pub interfaces : All (λ i. HasText (class_name_at c.pool i) IsClassName) c.interfaces
  pub fields : All (MemberHasTexts IsUnqualifiedName IsFieldDescriptor c.pool) c.fields
  pub methods : All (MemberHasTexts IsMethodName IsMethodDescriptor c.pool) c.methods
  pub attributes : AttributesHaveTexts c.pool c.attributes

-- each text that a valid class file names is there
abbrev pub ValidHasTexts : Type 0
ValidHasTexts = (c : ClassFile) → IsValid c → ClassHasTexts c
