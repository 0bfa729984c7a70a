-- Bodies of Code attributes that differ in one field: each field has its own place in the bytes (JVMS 4.7.3).
use Rattle.std.proofs.Common.{◌≡◌, ℕ, false, List, [], ◌∷◌, map, nat_eq, get_or, refl, ap, arith}
use Rattle.std.proofs.lemmas.Bool.{eqb-false}
use Rattle.dj_ops.specs.declared.rows.CatchRow.{CatchRow}
use Rattle.dj_class.specs.trusted.ClassFile.{AttributeInfo}
use Rattle.dj_class.specs.trusted.Code.{CodeInfo, code_info_bytes, IsCode}

abbrev row : CatchRow
row = record { start = 4; end = 5; handler = 6; catch_type = 7 }

abbrev attribute : AttributeInfo
attribute = record { name = 8; body = 9 ∷ [] }

abbrev plain : CodeInfo
plain = record { max_stack = 1; max_locals = 2; code = 3 ∷ []; table = row ∷ []; attributes = attribute ∷ [] }

-- one field of the plain one is another
abbrev with_table : List CatchRow → CodeInfo
with_table table = record plain { table = table }

abbrev with_attributes : List AttributeInfo → CodeInfo
with_attributes attributes = record plain { attributes = attributes }

-- the stack, the local variables, an instruction and how many there are
fields : map code_info_bytes (plain ∷ record plain { max_stack = 51 } ∷ record plain { max_locals = 52 } ∷ record plain { code = 53 ∷ [] } ∷ record plain { code = 3 ∷ 53 ∷ [] } ∷ [])
    ≡ (0 ∷ 1 ∷ 0 ∷ 2 ∷ 0 ∷ 0 ∷ 0 ∷ 1 ∷ 3 ∷ 0 ∷ 1 ∷ 0 ∷ 4 ∷ 0 ∷ 5 ∷ 0 ∷ 6 ∷ 0 ∷ 7 ∷ 0 ∷ 1 ∷ 0 ∷ 8 ∷ 0 ∷ 0 ∷ 0 ∷ 1 ∷ 9 ∷ [])
    ∷ (0 ∷ 51 ∷ 0 ∷ 2 ∷ 0 ∷ 0 ∷ 0 ∷ 1 ∷ 3 ∷ 0 ∷ 1 ∷ 0 ∷ 4 ∷ 0 ∷ 5 ∷ 0 ∷ 6 ∷ 0 ∷ 7 ∷ 0 ∷ 1 ∷ 0 ∷ 8 ∷ 0 ∷ 0 ∷ 0 ∷ 1 ∷ 9 ∷ [])
    ∷ (0 ∷ 1 ∷ 0 ∷ 52 ∷ 0 ∷ 0 ∷ 0 ∷ 1 ∷ 3 ∷ 0 ∷ 1 ∷ 0 ∷ 4 ∷ 0 ∷ 5 ∷ 0 ∷ 6 ∷ 0 ∷ 7 ∷ 0 ∷ 1 ∷ 0 ∷ 8 ∷ 0 ∷ 0 ∷ 0 ∷ 1 ∷ 9 ∷ [])
    ∷ (0 ∷ 1 ∷ 0 ∷ 2 ∷ 0 ∷ 0 ∷ 0 ∷ 1 ∷ 53 ∷ 0 ∷ 1 ∷ 0 ∷ 4 ∷ 0 ∷ 5 ∷ 0 ∷ 6 ∷ 0 ∷ 7 ∷ 0 ∷ 1 ∷ 0 ∷ 8 ∷ 0 ∷ 0 ∷ 0 ∷ 1 ∷ 9 ∷ [])
    ∷ (0 ∷ 1 ∷ 0 ∷ 2 ∷ 0 ∷ 0 ∷ 0 ∷ 2 ∷ 3 ∷ 53 ∷ 0 ∷ 1 ∷ 0 ∷ 4 ∷ 0 ∷ 5 ∷ 0 ∷ 6 ∷ 0 ∷ 7 ∷ 0 ∷ 1 ∷ 0 ∷ 8 ∷ 0 ∷ 0 ∷ 0 ∷ 1 ∷ 9 ∷ []) ∷ []
fields = refl

-- each field of a row, and a table without rows
rows : map (λ table. code_info_bytes (with_table table)) ((record row { start = 54 } ∷ []) ∷ (record row { end = 55 } ∷ []) ∷ (record row { handler = 56 } ∷ []) ∷ (record row { catch_type = 57 } ∷ []) ∷ [] ∷ [])
    ≡ (0 ∷ 1 ∷ 0 ∷ 2 ∷ 0 ∷ 0 ∷ 0 ∷ 1 ∷ 3 ∷ 0 ∷ 1 ∷ 0 ∷ 54 ∷ 0 ∷ 5 ∷ 0 ∷ 6 ∷ 0 ∷ 7 ∷ 0 ∷ 1 ∷ 0 ∷ 8 ∷ 0 ∷ 0 ∷ 0 ∷ 1 ∷ 9 ∷ [])
    ∷ (0 ∷ 1 ∷ 0 ∷ 2 ∷ 0 ∷ 0 ∷ 0 ∷ 1 ∷ 3 ∷ 0 ∷ 1 ∷ 0 ∷ 4 ∷ 0 ∷ 55 ∷ 0 ∷ 6 ∷ 0 ∷ 7 ∷ 0 ∷ 1 ∷ 0 ∷ 8 ∷ 0 ∷ 0 ∷ 0 ∷ 1 ∷ 9 ∷ [])
    ∷ (0 ∷ 1 ∷ 0 ∷ 2 ∷ 0 ∷ 0 ∷ 0 ∷ 1 ∷ 3 ∷ 0 ∷ 1 ∷ 0 ∷ 4 ∷ 0 ∷ 5 ∷ 0 ∷ 56 ∷ 0 ∷ 7 ∷ 0 ∷ 1 ∷ 0 ∷ 8 ∷ 0 ∷ 0 ∷ 0 ∷ 1 ∷ 9 ∷ [])
    ∷ (0 ∷ 1 ∷ 0 ∷ 2 ∷ 0 ∷ 0 ∷ 0 ∷ 1 ∷ 3 ∷ 0 ∷ 1 ∷ 0 ∷ 4 ∷ 0 ∷ 5 ∷ 0 ∷ 6 ∷ 0 ∷ 57 ∷ 0 ∷ 1 ∷ 0 ∷ 8 ∷ 0 ∷ 0 ∷ 0 ∷ 1 ∷ 9 ∷ [])
    ∷ (0 ∷ 1 ∷ 0 ∷ 2 ∷ 0 ∷ 0 ∷ 0 ∷ 1 ∷ 3 ∷ 0 ∷ 0 ∷ 0 ∷ 1 ∷ 0 ∷ 8 ∷ 0 ∷ 0 ∷ 0 ∷ 1 ∷ 9 ∷ []) ∷ []
rows = refl

-- the name and the body of an attribute, and a list without attributes
attributes : map (λ attributes. code_info_bytes (with_attributes attributes)) ((record attribute { name = 58 } ∷ []) ∷ (record attribute { body = 59 ∷ [] } ∷ []) ∷ [] ∷ [])
    ≡ (0 ∷ 1 ∷ 0 ∷ 2 ∷ 0 ∷ 0 ∷ 0 ∷ 1 ∷ 3 ∷ 0 ∷ 1 ∷ 0 ∷ 4 ∷ 0 ∷ 5 ∷ 0 ∷ 6 ∷ 0 ∷ 7 ∷ 0 ∷ 1 ∷ 0 ∷ 58 ∷ 0 ∷ 0 ∷ 0 ∷ 1 ∷ 9 ∷ [])
    ∷ (0 ∷ 1 ∷ 0 ∷ 2 ∷ 0 ∷ 0 ∷ 0 ∷ 1 ∷ 3 ∷ 0 ∷ 1 ∷ 0 ∷ 4 ∷ 0 ∷ 5 ∷ 0 ∷ 6 ∷ 0 ∷ 7 ∷ 0 ∷ 1 ∷ 0 ∷ 8 ∷ 0 ∷ 0 ∷ 0 ∷ 1 ∷ 59 ∷ [])
    ∷ (0 ∷ 1 ∷ 0 ∷ 2 ∷ 0 ∷ 0 ∷ 0 ∷ 1 ∷ 3 ∷ 0 ∷ 1 ∷ 0 ∷ 4 ∷ 0 ∷ 5 ∷ 0 ∷ 6 ∷ 0 ∷ 7 ∷ 0 ∷ 0 ∷ []) ∷ []
attributes = refl

-- ---- what differs in one field has other bytes, so the bytes of the one aren't the other

-- the byte at the place is another
byte-apart : (place : ℕ) (c d : CodeInfo) → nat_eq (get_or (code_info_bytes c) place 0) (get_or (code_info_bytes d) place 0) ≡ false → IsCode (code_info_bytes c) d → ⊥
byte-apart place c d differ is = eqb-false _ _ differ (ap (λ (bytes : List ℕ). get_or bytes place 0) is.spelled)

-- with another stack, other local variables, another instruction and one more
other-fields_not : (IsCode (code_info_bytes plain) (record plain { max_stack = 51 }) → ⊥) × (IsCode (code_info_bytes plain) (record plain { max_locals = 52 }) → ⊥)
    × (IsCode (code_info_bytes plain) (record plain { code = 53 ∷ [] }) → ⊥) × (IsCode (code_info_bytes plain) (record plain { code = 3 ∷ 53 ∷ [] }) → ⊥)
other-fields_not = (
  byte-apart 1 plain (record plain { max_stack = 51 }) refl,
  byte-apart 3 plain (record plain { max_locals = 52 }) refl,
  byte-apart 8 plain (record plain { code = 53 ∷ [] }) refl,
  byte-apart 7 plain (record plain { code = 3 ∷ 53 ∷ [] }) refl,
)

-- with a row of another start, end, handler or type, and without one
other-rows_not : (IsCode (code_info_bytes plain) (with_table (record row { start = 54 } ∷ [])) → ⊥) × (IsCode (code_info_bytes plain) (with_table (record row { end = 55 } ∷ [])) → ⊥)
    × (IsCode (code_info_bytes plain) (with_table (record row { handler = 56 } ∷ [])) → ⊥) × (IsCode (code_info_bytes plain) (with_table (record row { catch_type = 57 } ∷ [])) → ⊥)
    × (IsCode (code_info_bytes plain) (with_table []) → ⊥)
other-rows_not = (
  byte-apart 12 plain (with_table (record row { start = 54 } ∷ [])) refl,
  byte-apart 14 plain (with_table (record row { end = 55 } ∷ [])) refl,
  byte-apart 16 plain (with_table (record row { handler = 56 } ∷ [])) refl,
  byte-apart 18 plain (with_table (record row { catch_type = 57 } ∷ [])) refl,
  byte-apart 10 plain (with_table []) refl,
)

-- with an attribute of another name or body, and without one
other-attributes_not : (IsCode (code_info_bytes plain) (with_attributes (record attribute { name = 58 } ∷ [])) → ⊥) × (IsCode (code_info_bytes plain) (with_attributes (record attribute { body = 59 ∷ [] } ∷ [])) → ⊥)
    × (IsCode (code_info_bytes plain) (with_attributes []) → ⊥)
other-attributes_not = (
  byte-apart 22 plain (with_attributes (record attribute { name = 58 } ∷ [])) refl,
  byte-apart 27 plain (with_attributes (record attribute { body = 59 ∷ [] } ∷ [])) refl,
  byte-apart 20 plain (with_attributes []) refl,
)

-- and the plain one's bytes are its own
plain-is : IsCode (code_info_bytes plain) plain
plain-is = record {
  spelled = refl;
  valid = record {
    max_stack = omega arith;
    max_locals = omega arith;
    some_code = omega arith;
    few_code = omega arith;
    row_count = omega arith;
    rows = (record { start = omega arith; end = omega arith; handler = omega arith; catch_type = omega arith }, tt);
    attribute_count = omega arith;
    attributes = (record { name = omega arith; body = omega arith }, tt);
  };
}
