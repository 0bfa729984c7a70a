-- The constant pool of a class file (JVMS 4.4): the constants, the bytes that spell them, and which of them are valid.
use Rattle.std.specs.Prelude.{◌≡◌, ℕ, ℤ, zero, suc, ◌+◌, ◌^◌, ◌<◌, ◌⊎◌, ⊤, Bool, true, false, FitsSigned, if◌then◌else◌, List, [], ◌∷◌, ◌++◌, length, Option, Some, None, IsSomeAnd, slice_get, option_and_then}
use Rattle.std.specs.List.{flat_map, AllByRecursion}
use Rattle.std.specs.Int.{w32, w64}
use Rattle.dj_cursor.specs.trusted.Spelling.{u1, u2, u4, u8, s4, s8}
use Rattle.dj_names.specs.trusted.ModifiedUtf8.{IsModifiedUtf8}
use Rattle.dj_names.specs.trusted.Names.{IsUnqualifiedName, IsMethodName, IsClassName}
use Rattle.dj_names.specs.trusted.Descriptors.{IsFieldDescriptor, IsMethodDescriptor, IsArrayDescriptor}

-- ---- the constants

pub data Constant : Type 0 where
  -- JVMS 4.4.7: a text
  Utf8 : List ℕ → Constant
  -- JVMS 4.4.4
  Integer : ℤ → Constant
  -- JVMS 4.4.4: a float, by its bits
  Float : ℕ → Constant
  -- JVMS 4.4.5
  Long : ℤ → Constant
  -- JVMS 4.4.5: a double, by its bits
  Double : ℕ → Constant
  -- JVMS 4.4.1: a class or an array's class, by the index of its text
  Class : ℕ → Constant
  -- JVMS 4.4.3: a string, by the index of its text
  Text : ℕ → Constant
  -- JVMS 4.4.2: a field, a method or an interface's method, by the indexes of its class and of its name and descriptor
  Field : ℕ → ℕ → Constant
  Method : ℕ → ℕ → Constant
  InterfaceMethod : ℕ → ℕ → Constant
  -- JVMS 4.4.6: by the indexes of their texts
  NameAndType : ℕ → ℕ → Constant
  -- JVMS 4.4.8: a kind, and the index of the field or the method
  Handle : ℕ → ℕ → Constant
  -- JVMS 4.4.9: by the index of the descriptor's text
  MethodType : ℕ → Constant
  -- JVMS 4.4.10: a place in the table of bootstrap methods, and the index of a name and descriptor
  Dynamic : ℕ → ℕ → Constant
  -- the second index of a long or a double
  Hole : Constant

-- JVMS 4.4.5: a long and a double take two indexes
abbrev pub takes_two : Constant → Bool
takes_two (Long n) = true
takes_two (Double n) = true
takes_two _ = false

-- the constants at their indexes: a hole follows each that takes two
unfoldable pub indexed : List Constant → List Constant
indexed [] = []
indexed (k ∷ ks) = if takes_two k then k ∷ (Hole ∷ indexed ks) else k ∷ indexed ks

-- ---- the bytes

-- JVMS table 4.4-B: a tag, and what belongs to it
abbrev pub constant_bytes : Constant → List ℕ
constant_bytes (Utf8 text) = u1 1 ++ u2 (length text) ++ text
constant_bytes (Integer n) = u1 3 ++ s4 n
constant_bytes (Float bits) = u1 4 ++ u4 bits
constant_bytes (Long n) = u1 5 ++ s8 n
constant_bytes (Double bits) = u1 6 ++ u8 bits
constant_bytes (Class name) = u1 7 ++ u2 name
constant_bytes (Text text) = u1 8 ++ u2 text
constant_bytes (Field class name_and_type) = u1 9 ++ u2 class ++ u2 name_and_type
constant_bytes (Method class name_and_type) = u1 10 ++ u2 class ++ u2 name_and_type
constant_bytes (InterfaceMethod class name_and_type) = u1 11 ++ u2 class ++ u2 name_and_type
constant_bytes (NameAndType name desc) = u1 12 ++ u2 name ++ u2 desc
constant_bytes (Handle kind member) = u1 15 ++ u1 kind ++ u2 member
constant_bytes (MethodType desc) = u1 16 ++ u2 desc
constant_bytes (Dynamic bootstrap name_and_type) = u1 18 ++ u2 bootstrap ++ u2 name_and_type
constant_bytes Hole = []

-- the count of the pool, which is one more than the number of its indexes, and its constants
abbrev pub pool_bytes : List Constant → List ℕ
pool_bytes pool = u2 (length pool + 1) ++ flat_map constant_bytes pool

-- ---- what is at an index

-- the constant at an index, which count from 1
abbrev pub constant_at : List Constant → ℕ → Option Constant
constant_at pool zero = None
constant_at pool (suc i) = slice_get pool i

abbrev pub text_of : Constant → Option (List ℕ)
text_of (Utf8 text) = Some text
text_of _ = None

abbrev pub class_text_of : Constant → Option ℕ
class_text_of (Class name) = Some name
class_text_of _ = None

-- the indexes of a name and a descriptor
abbrev pub names_of : Constant → Option (ℕ × ℕ)
names_of (NameAndType name desc) = Some (name, desc)
names_of _ = None

-- the indexes of a class, and of a name and descriptor
abbrev pub member_of : Constant → Option (ℕ × ℕ)
member_of (Field class name_and_type) = Some (class, name_and_type)
member_of (Method class name_and_type) = Some (class, name_and_type)
member_of (InterfaceMethod class name_and_type) = Some (class, name_and_type)
member_of _ = None

-- the text at an index
abbrev pub text_at : List Constant → ℕ → Option (List ℕ)
text_at pool index = option_and_then text_of (constant_at pool index)

-- the text of the class at an index
abbrev pub class_name_at : List Constant → ℕ → Option (List ℕ)
class_name_at pool index = option_and_then (text_at pool) (option_and_then class_text_of (constant_at pool index))

-- two things, where both are there
abbrev pub both : {A B : Type 0} → Option A → Option B → Option (A × B)
both (Some a) (Some b) = Some (a, b)
both _ _ = None

-- the texts of the name and the descriptor at an index
abbrev pub name_and_type_at : List Constant → ℕ → Option (List ℕ × List ℕ)
name_and_type_at pool index =
    option_and_then (λ (n : ℕ × ℕ). both (text_at pool n.0) (text_at pool n.1)) (option_and_then names_of (constant_at pool index))

-- the text of the descriptor at an index of a name and descriptor
abbrev pub desc_at : List Constant → ℕ → Option (List ℕ)
desc_at pool index = option_and_then (λ (n : ℕ × ℕ). text_at pool n.1) (option_and_then names_of (constant_at pool index))

-- ---- which constants are valid

-- JVMS 4.4.1: the text that a class constant may name
abbrev pub IsClassText : List ℕ → Type 0
IsClassText text = IsClassName text ⊎ IsArrayDescriptor text

-- the constant's numbers fit their bytes, and a text is modified UTF-8
abbrev pub IsWhole : Constant → Type 0
IsWhole (Utf8 text) = (length text < 2 ^ 16) × IsModifiedUtf8 text
IsWhole (Integer n) = FitsSigned w32 n
IsWhole (Float bits) = bits < 2 ^ 32
IsWhole (Long n) = FitsSigned w64 n
IsWhole (Double bits) = bits < 2 ^ 64
IsWhole (Class name) = name < 2 ^ 16
IsWhole (Text text) = text < 2 ^ 16
IsWhole (Field class name_and_type) = (class < 2 ^ 16) × (name_and_type < 2 ^ 16)
IsWhole (Method class name_and_type) = (class < 2 ^ 16) × (name_and_type < 2 ^ 16)
IsWhole (InterfaceMethod class name_and_type) = (class < 2 ^ 16) × (name_and_type < 2 ^ 16)
IsWhole (NameAndType name desc) = (name < 2 ^ 16) × (desc < 2 ^ 16)
IsWhole (Handle kind member) = (kind < 2 ^ 8) × (member < 2 ^ 16)
IsWhole (MethodType desc) = desc < 2 ^ 16
IsWhole (Dynamic bootstrap name_and_type) = (bootstrap < 2 ^ 16) × (name_and_type < 2 ^ 16)
IsWhole Hole = ⊥

-- there is a text at the index, and it meets the condition
abbrev pub NamesText : (List ℕ → Type 0) → List Constant → ℕ → Type 0
NamesText IsSuch pool index = IsSomeAnd (text_at pool index) IsSuch

-- there is a class at the index
abbrev pub NamesAnyClass : List Constant → ℕ → Type 0
NamesAnyClass pool index = IsSomeAnd (option_and_then class_text_of (constant_at pool index)) (λ _. ⊤)

-- there is a field or a method at the index
abbrev pub NamesMember : List Constant → ℕ → Type 0
NamesMember pool index = IsSomeAnd (option_and_then member_of (constant_at pool index)) (λ _. ⊤)

-- there is a name and descriptor at the index, and the descriptor meets the condition
abbrev pub NamesDesc : (List ℕ → Type 0) → List Constant → ℕ → Type 0
NamesDesc IsSuch pool index = IsSomeAnd (desc_at pool index) IsSuch

-- JVMS 4.4.6: a field's name and descriptor, or a method's
abbrev pub AreNames : List Constant → ℕ → ℕ → Type 0
AreNames pool name desc =
    (NamesText IsUnqualifiedName pool name × NamesText IsFieldDescriptor pool desc)
    ⊎ (NamesText IsMethodName pool name × NamesText IsMethodDescriptor pool desc)

-- each index of the constant names what belongs there
abbrev pub IsLinked : List Constant → Constant → Type 0
IsLinked pool (Class name) = NamesText IsClassText pool name
IsLinked pool (Text text) = NamesText (λ _. ⊤) pool text
IsLinked pool (Field class name_and_type) = NamesAnyClass pool class × NamesDesc IsFieldDescriptor pool name_and_type
IsLinked pool (Method class name_and_type) = NamesAnyClass pool class × NamesDesc IsMethodDescriptor pool name_and_type
IsLinked pool (InterfaceMethod class name_and_type) = NamesAnyClass pool class × NamesDesc IsMethodDescriptor pool name_and_type
IsLinked pool (NameAndType name desc) = AreNames pool name desc
-- the member may be of any kind
IsLinked pool (Handle kind member) = NamesMember pool member
IsLinked pool (MethodType desc) = NamesText IsMethodDescriptor pool desc
-- the place in the table may be any
IsLinked pool (Dynamic bootstrap name_and_type) = NamesDesc IsMethodDescriptor pool name_and_type
IsLinked pool _ = ⊤

-- a valid constant of this pool
abbrev pub IsConstant : List Constant → Constant → Type 0
IsConstant pool k = IsWhole k × IsLinked pool k

-- constants at their indexes, each of them valid
pub record IsPool (pool : List Constant) : Type 0 where
  pub constants : List Constant
  pub indexes : pool ≡ indexed constants
  pub each : AllByRecursion (IsConstant pool) constants
  pub count : length pool + 1 < 2 ^ 16
