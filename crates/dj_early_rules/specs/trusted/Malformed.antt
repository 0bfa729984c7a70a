-- Rule 1, MALFORMED: what is forbidden in a class file beyond what its reader checks. Each condition is a definition of its own.
use Rattle.std.specs.Prelude.{◌≡◌, ◌≢◌, ℕ, ◌≤◌, ◌<◌, ◌^◌, ◌⊎◌, List, [], length, codes, Contains, Some}
use Rattle.std.specs.Int.{IsBitSet}
use Rattle.dj_cursor.specs.trusted.Spelling.{u2}
use Rattle.dj_pool.specs.trusted.Pool.{Constant, Integer, Float, Long, Double, Text, constant_at, text_at}
use Rattle.dj_class.specs.trusted.Access as access
use Rattle.dj_class.specs.trusted.ClassFile.{MemberInfo, ClassFile, IsClassFile, IsMalformed}
use Rattle.dj_class.specs.trusted.Code.{CodeInfo, IsCode}
use Rattle.dj_labels.specs.declared.labelled.Labelled.{Labelled}
use Rattle.dj_labels.specs.trusted.Labels.{IsLabelled}
use Rattle.dj_early_rules.specs.trusted.Attributes.{codes_of, values_of, maps_of}

-- ---- methods

-- JVMS table 4.6-A: the method is native or abstract
abbrev pub IsBodiless : MemberInfo → Type 0
IsBodiless m = IsBitSet m.flags access.native ⊎ IsBitSet m.flags access.abstract

-- JVMS 4.7.3: a method that is neither native nor abstract has exactly one Code attribute
abbrev pub LacksCode : List Constant → MemberInfo → Type 0
LacksCode pool m = (IsBodiless m → ⊥) × (length (codes_of pool m) ≢ 1)

-- JVMS 4.7.3: a method that is native or abstract has none
abbrev pub HasNeedlessCode : List Constant → MemberInfo → Type 0
HasNeedlessCode pool m = IsBodiless m × (codes_of pool m ≢ [])

-- JVMS 4.7.3: the bytes aren't exactly the body of a Code attribute, or its code has 0 or more than 65,535 bytes
abbrev pub IsNoBody : List ℕ → Type 0
IsNoBody body = (code : CodeInfo) → IsCode body code → ⊥

-- JVMS 4.7.3 and 4.9.1: the code can't be cut into instructions, jumps to where none starts, or has a row that is no range of instructions
abbrev pub LacksLabels : CodeInfo → Type 0
LacksLabels code = (labelled : Labelled) → IsLabelled code.code code.table labelled → ⊥

-- JVMS 4.7.4: there is at most one StackMapTable
abbrev pub HasTwoMaps : List Constant → CodeInfo → Type 0
HasTwoMaps pool code = 2 ≤ length (maps_of pool code)

abbrev pub IsFaultyCode : List Constant → CodeInfo → Type 0
IsFaultyCode pool code = LacksLabels code ⊎ HasTwoMaps pool code

-- the body of a Code attribute is faulty
abbrev pub IsFaultyBody : List Constant → List ℕ → Type 0
IsFaultyBody pool body = IsNoBody body ⊎ ((code : CodeInfo) × IsCode body code × IsFaultyCode pool code)

-- a Code attribute of the method is faulty
abbrev pub HasFaultyBody : List Constant → MemberInfo → Type 0
HasFaultyBody pool m = (body : List ℕ) × Contains (codes_of pool m) body × IsFaultyBody pool body

abbrev pub IsFaultyMethod : List Constant → MemberInfo → Type 0
IsFaultyMethod pool m = LacksCode pool m ⊎ (HasNeedlessCode pool m ⊎ HasFaultyBody pool m)

-- ---- fields

-- JVMS 4.7.2: there is at most one ConstantValue
abbrev pub HasTwoValues : List Constant → MemberInfo → Type 0
HasTwoValues pool f = 2 ≤ length (values_of pool f)

-- JVMS table 4.3-A: a type whose values are ints
abbrev pub IsIntText : List ℕ → Type 0
IsIntText text =
    (text ≡ codes "B") ⊎ ((text ≡ codes "C") ⊎ ((text ≡ codes "I") ⊎ ((text ≡ codes "S") ⊎ (text ≡ codes "Z"))))

-- JVMS table 4.7.2-A: the constant fits a field of this descriptor
abbrev pub FitsField : Constant → List ℕ → Type 0
FitsField (Integer n) text = IsIntText text
FitsField (Long n) text = text ≡ codes "J"
FitsField (Float bits) text = text ≡ codes "F"
FitsField (Double bits) text = text ≡ codes "D"
FitsField (Text index) text = text ≡ codes "Ljava/lang/String;"
FitsField _ text = ⊥

-- JVMS 4.7.2: the constant at the index fits a field whose descriptor is the text at the index `desc`
pub record NamesValue (pool : List Constant) (desc index : ℕ) : Type 0 where
  pub constant : Constant
  pub found : constant_at pool index ≡ Some constant
  pub text : List ℕ
  pub described : text_at pool desc ≡ Some text
  pub fits : FitsField constant text

-- JVMS 4.7.2: the body has two bytes, and they are the index of a constant that fits
pub record IsValueFor (pool : List Constant) (desc : ℕ) (body : List ℕ) : Type 0 where
  pub index : ℕ
  pub small : index < 2 ^ 16
  pub are : body ≡ u2 index
  pub names : NamesValue pool desc index

-- the body of a ConstantValue doesn't have two bytes, or its constant doesn't fit
abbrev pub HasFaultyValue : List Constant → MemberInfo → Type 0
HasFaultyValue pool f = (body : List ℕ) × Contains (values_of pool f) body × (IsValueFor pool f.desc body → ⊥)

abbrev pub IsFaultyField : List Constant → MemberInfo → Type 0
IsFaultyField pool f = HasTwoValues pool f ⊎ HasFaultyValue pool f

-- ---- files

abbrev pub HasFaultyMethod : ClassFile → Type 0
HasFaultyMethod c = (m : MemberInfo) × Contains c.methods m × IsFaultyMethod c.pool m

abbrev pub HasFaultyField : ClassFile → Type 0
HasFaultyField c = (f : MemberInfo) × Contains c.fields f × IsFaultyField c.pool f

-- the class file has a faulty part
abbrev pub IsFaulty : ClassFile → Type 0
IsFaulty c = HasFaultyMethod c ⊎ HasFaultyField c

-- the bytes violate rule 1: they are no class file, or one with a faulty part
abbrev pub IsRefused : List ℕ → Type 0
IsRefused bytes = IsMalformed bytes ⊎ ((c : ClassFile) × IsClassFile bytes c × IsFaulty c)

-- the bytes don't violate rule 1: they are this class file, and it has no faulty part
pub record IsGood (bytes : List ℕ) (c : ClassFile) : Type 0 where
  pub file : IsClassFile bytes c
  pub whole : IsFaulty c → ⊥
