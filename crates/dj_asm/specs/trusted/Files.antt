-- The class file that a source means (JVMS 4.1 to 4.7).
use Rattle.std.specs.Prelude.{◌≡◌, ℕ, ℤ, unsigned_abs, List, [], ◌∷◌, map, Option, Some, None}
use Rattle.std.specs.List.{AllZip}
use Rattle.dj_class.specs.trusted.ClassFile.{AttributeInfo, MemberInfo, ClassFile}
use Rattle.dj_class.specs.trusted.Code.{CodeInfo, code_info_bytes}
use Rattle.dj_cursor.specs.trusted.Spelling.{u2}
use Rattle.dj_asm_source.specs.trusted.Lines.{Line, Value}
use Rattle.dj_asm_source.specs.trusted.Sources.{Source, FieldSource, MethodSource, Bodiless, Coded, body_lines}
use Rattle.dj_asm_source.specs.trusted.Labels.{label_number}
use Rattle.dj_asm_pool.specs.trusted.Entries.{Entry, Utf8, Class, pool_of}
use Rattle.dj_asm_pool.specs.trusted.Needs.{value_entry, code_name, constant_value_name, entries_of, index_in}
use Rattle.dj_asm.specs.trusted.Codes.{Places, IsCodeOf}

-- JVMS 4.7.2: the ConstantValue of a field
abbrev pub value_attribute : (Entry → ℕ) → Option Value → List AttributeInfo
value_attribute index None = []
value_attribute index (Some value) = record { name = index constant_value_name; body = u2 (index (value_entry value)) } ∷ []

abbrev pub field_of : (Entry → ℕ) → FieldSource → MemberInfo
field_of index field = record {
  flags = field.flags;
  name = index (Utf8 field.name);
  desc = index (Utf8 field.desc);
  attributes = value_attribute index field.value;
}

-- the labels of a body, and the entries of the pool
abbrev pub places_of : (Entry → ℕ) → List Line → Places
places_of index body = record { number = label_number body; index = index }

-- a method with code
pub record IsCodedMethod (index : Entry → ℕ) (flags : ℕ) (name desc : List ℕ) (stack locals : ℤ) (body : List Line) (m : MemberInfo) : Type 0 where
  pub code : CodeInfo
  pub is_code : IsCodeOf (places_of index body) stack locals body code
  pub method : m ≡ record {
    flags = flags;
    name = index (Utf8 name);
    desc = index (Utf8 desc);
    attributes = record { name = index code_name; body = code_info_bytes code } ∷ [];
  }

abbrev pub IsMethodOf : (Entry → ℕ) → MethodSource → MemberInfo → Type 0
IsMethodOf index (Bodiless flags name desc) m = m ≡ record { flags = flags; name = index (Utf8 name); desc = index (Utf8 desc); attributes = [] }
IsMethodOf index (Coded flags name desc stack locals body) m = IsCodedMethod index flags name desc stack locals (body_lines body) m

-- where the source has no version it is 52 0
abbrev pub major_of : Option (ℤ × ℤ) → ℕ
major_of None = 52
major_of (Some version) = unsigned_abs version.0

abbrev pub minor_of : Option (ℤ × ℤ) → ℕ
minor_of None = 0
minor_of (Some version) = unsigned_abs version.1

abbrev pub class_index : Source → List ℕ → ℕ
class_index s name = index_in s (Class name)

pub record IsFileOf (s : Source) (c : ClassFile) : Type 0 where
  pub methods : List MemberInfo
  pub are_methods : AllZip (IsMethodOf (index_in s)) s.methods methods
  pub file : c ≡ record {
    minor = minor_of s.version;
    major = major_of s.version;
    pool = pool_of (entries_of s);
    flags = s.flags;
    this_class = class_index s s.name;
    super_class = class_index s s.super;
    interfaces = map (class_index s) s.interfaces;
    fields = map (field_of (index_in s)) s.fields;
    methods = methods;
    attributes = [];
  }
