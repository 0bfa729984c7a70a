-- The definitions at plain values: class files and their bytes, what is faulty in files that differ from them in one byte, rows, code lengths and access flags.
use Rattle.std.proofs.Common.{◌≡◌, ◌≢◌, ℕ, ◌+◌, true, false, List, [], ◌∷◌, ◌++◌, length, map, take, drop, Result, Ok, Err, refl, arith, inl, inr}
use Rattle.std.specs.Prelude.{codes}
use Rattle.dj_cursor.specs.Reading.{many_at, table_at}
use Rattle.dj_names.specs.trusted.NameReading.{reads_class_name}
use Rattle.dj_names.specs.trusted.DescReading.{dims_read, name_read, class_read, of_read, type_read, params_read, field_read, return_read, method_read}
use Rattle.dj_names.specs.trusted.UnitReading.{unit_read, long_read, two_read, three_read}
use Rattle.dj_names.specs.trusted.Tests.{units_read}
use Rattle.dj_names.specs.Tests.{unqualified_name_test, method_name_test, class_name_test, modified_utf8_test, field_descriptor_test, method_descriptor_test, array_descriptor_test}
use Rattle.dj_pool.specs.declared.pool.PoolError.TheVariants as pool_errors
use Rattle.dj_pool.specs.trusted.Pool.{Utf8, Class}
use Rattle.dj_pool.specs.Reading.{utf8_at, number4_at, number8_at, named_at, paired_at, handle_at, untagged_at, constant_at_cursor, slot_at, slots_at, first_unlinked, linked_slots_at, pool_at}
use Rattle.dj_pool.proofs.Decides.{tests_decide}
use Rattle.dj_class.specs.declared.class.ClassError.{ClassError}
use Rattle.dj_class.specs.declared.class.ClassError.TheVariants as errors
use Rattle.dj_class.specs.trusted.ClassFile.{ClassFile, class_bytes}
use Rattle.dj_class.specs.trusted.Code.{CodeInfo, row_bytes, code_info_bytes, IsCode}
use Rattle.dj_class.specs.Faults.{IsFault}
use Rattle.dj_class.specs.CodeFaults.{IsCodeLength, IsCodeFault}
use Rattle.dj_class.specs.Access.{access_table}
use Rattle.dj_class.specs.Reading.{index_at, attribute_at, member_at, magic_at, header_at, heading_at, class_file_of}
use Rattle.dj_class.specs.CodeReading.{code_length_at, code_prefix_at, row_at, code_read}
use Rattle.dj_class.proofs.ClassLaws.{fault_again}

-- ---- a class file of one method

unfoldable pub class_a : ClassFile
class_a = record {
  minor = 0;
  major = 52;
  pool = Utf8 (codes "A") ∷ Class 1 ∷ Utf8 (codes "java/lang/Object") ∷ Class 3 ∷ Utf8 (codes "verify") ∷ Utf8 (codes "([B)[B") ∷ Utf8 (codes "Code") ∷ [];
  flags = 33;
  this_class = 2;
  super_class = 4;
  interfaces = [];
  fields = [];
  methods = record { flags = 9; name = 5; desc = 6; attributes = record { name = 7; body = (0 ∷ 1 ∷ 0 ∷ 1 ∷ 0 ∷ 0 ∷ 0 ∷ 2 ∷ 42 ∷ 176 ∷ 0 ∷ 0 ∷ 0 ∷ 0 ∷ []) } ∷ [] } ∷ [];
  attributes = [];
}

unfoldable pub bytes_a : List ℕ
bytes_a = 202 ∷ 254 ∷ 186 ∷ 190 ∷ 0 ∷ 0 ∷ 0 ∷ 52 ∷ 0 ∷ 8 ∷ 1 ∷ 0 ∷ 1 ∷ 65 ∷ 7 ∷ 0 ∷ 1 ∷ 1 ∷ 0 ∷ 16 ∷ 106 ∷ 97 ∷ 118 ∷ 97 ∷ 47 ∷ 108 ∷ 97 ∷ 110 ∷ 103 ∷ 47 ∷ 79 ∷ 98 ∷ 106 ∷ 101 ∷ 99 ∷ 116 ∷ 7 ∷ 0 ∷ 3 ∷ 1 ∷ 0 ∷ 6 ∷ 118 ∷ 101 ∷ 114 ∷ 105 ∷ 102 ∷ 121 ∷ 1 ∷ 0 ∷ 6 ∷ 40 ∷ 91 ∷ 66 ∷ 41 ∷ 91 ∷ 66 ∷ 1 ∷ 0 ∷ 4 ∷ 67 ∷ 111 ∷ 100 ∷ 101 ∷ 0 ∷ 33 ∷ 0 ∷ 2 ∷ 0 ∷ 4 ∷ 0 ∷ 0 ∷ 0 ∷ 0 ∷ 0 ∷ 1 ∷ 0 ∷ 9 ∷ 0 ∷ 5 ∷ 0 ∷ 6 ∷ 0 ∷ 1 ∷ 0 ∷ 7 ∷ 0 ∷ 0 ∷ 0 ∷ 14 ∷ 0 ∷ 1 ∷ 0 ∷ 1 ∷ 0 ∷ 0 ∷ 0 ∷ 2 ∷ 42 ∷ 176 ∷ 0 ∷ 0 ∷ 0 ∷ 0 ∷ 0 ∷ 0 ∷ []

-- the file is spelled so
pub class_a-bytes : class_bytes class_a ≡ bytes_a
unfolding class_a bytes_a
class_a-bytes = refl

-- with one byte put another way
unfoldable pub changed : ℕ → ℕ → List ℕ
changed place byte = take place bytes_a ++ byte ∷ drop (place + 1) bytes_a

-- ---- what is read of files

files : List (List ℕ)
files =
    bytes_a
    ∷ ((take 3 bytes_a)
    ∷ ((take 6 bytes_a)
    ∷ ((take 8 bytes_a)
    ∷ ((take 65 bytes_a)
    ∷ ((take 97 bytes_a)
    ∷ ((take 105 bytes_a)
    ∷ ((bytes_a ++ 0 ∷ [])
    ∷ ((changed 3 191)
    ∷ ((changed 10 2)
    ∷ ((changed 16 4)
    ∷ ((changed 13 255)
    ∷ ((changed 67 1)
    ∷ ((changed 67 0)
    ∷ ((changed 69 5)
    ∷ ((changed 71 1)
    ∷ ((changed 79 6)
    ∷ ((changed 81 5)
    ∷ ((changed 85 2) ∷ []))))))))))))))))))

answers : List (Result ClassFile ClassError)
answers =
    Ok class_a
    ∷ (Err (errors.Cut 0)
    ∷ (Err (errors.Cut 6)
    ∷ (Err (errors.Pool (pool_errors.Cut 8))
    ∷ (Err (errors.Cut 64)
    ∷ (Err (errors.Cut 90)
    ∷ (Err (errors.Cut 104)
    ∷ (Err (errors.Trailing 106)
    ∷ (Err errors.Magic
    ∷ (Err (errors.Pool (pool_errors.Tag 10))
    ∷ (Err (errors.Pool (pool_errors.Link 2))
    ∷ (Err (errors.Pool (pool_errors.Text 1))
    ∷ (Err (errors.Index 66)
    ∷ (Err (errors.Index 66)
    ∷ (Err (errors.Index 68)
    ∷ (Err (errors.Index 72)
    ∷ (Err (errors.Index 78)
    ∷ (Err (errors.Index 80)
    ∷ (Err (errors.Index 84) ∷ []))))))))))))))))))

files-read : map class_file_of files ≡ answers
unfolding files answers class_a bytes_a changed utf8_at number4_at number8_at named_at paired_at handle_at untagged_at constant_at_cursor slot_at slots_at first_unlinked linked_slots_at pool_at unit_read long_read two_read three_read units_read modified_utf8_test unqualified_name_test method_name_test class_name_test field_descriptor_test method_descriptor_test array_descriptor_test reads_class_name dims_read name_read class_read of_read type_read params_read field_read return_read method_read many_at table_at index_at attribute_at member_at magic_at header_at heading_at class_file_of
files-read = refl

-- a class that is an array's: the pool allows it, the file's class may be none
unfoldable pub array_file : List ℕ
array_file = 202 ∷ 254 ∷ 186 ∷ 190 ∷ 0 ∷ 0 ∷ 0 ∷ 52 ∷ 0 ∷ 3 ∷ 1 ∷ 0 ∷ 2 ∷ 91 ∷ 73 ∷ 7 ∷ 0 ∷ 1 ∷ 0 ∷ 33 ∷ 0 ∷ 2 ∷ 0 ∷ 0 ∷ 0 ∷ 0 ∷ 0 ∷ 0 ∷ 0 ∷ 0 ∷ 0 ∷ 0 ∷ []

array_file-read : class_file_of array_file ≡ Err (errors.Index 20)
unfolding array_file utf8_at number4_at number8_at named_at paired_at handle_at untagged_at constant_at_cursor slot_at slots_at first_unlinked linked_slots_at pool_at unit_read long_read two_read three_read units_read modified_utf8_test unqualified_name_test method_name_test class_name_test field_descriptor_test method_descriptor_test array_descriptor_test reads_class_name dims_read name_read class_read of_read type_read params_read field_read return_read method_read many_at table_at index_at attribute_at member_at magic_at header_at heading_at class_file_of
array_file-read = refl

-- the superclass may be none
no_super-read : class_file_of (changed 69 0) ≡ Ok (record { minor = 0; major = 52; pool = class_a.pool; flags = 33; this_class = 2; super_class = 0; interfaces = []; fields = []; methods = class_a.methods; attributes = [] })
unfolding class_a bytes_a changed utf8_at number4_at number8_at named_at paired_at handle_at untagged_at constant_at_cursor slot_at slots_at first_unlinked linked_slots_at pool_at unit_read long_read two_read three_read units_read modified_utf8_test unqualified_name_test method_name_test class_name_test field_descriptor_test method_descriptor_test array_descriptor_test reads_class_name dims_read name_read class_read of_read type_read params_read field_read return_read method_read many_at table_at index_at attribute_at member_at magic_at header_at heading_at class_file_of
no_super-read = refl

-- a class file has no fault
class_a-faultless : (e : ClassError) → IsFault bytes_a e → ⊥
unfolding class_a bytes_a utf8_at number4_at number8_at named_at paired_at handle_at untagged_at constant_at_cursor slot_at slots_at first_unlinked linked_slots_at pool_at unit_read long_read two_read three_read units_read modified_utf8_test unqualified_name_test method_name_test class_name_test field_descriptor_test method_descriptor_test array_descriptor_test reads_class_name dims_read name_read class_read of_read type_read params_read field_read return_read method_read many_at table_at index_at attribute_at member_at magic_at header_at heading_at class_file_of
class_a-faultless e fault =
    let read : class_file_of bytes_a ≡ Ok class_a = refl in
    let reported = fault_again tests_decide bytes_a e fault in
    absurd cc

-- a fault has one place
array_file-fault : (e : ClassError) → IsFault array_file e → e ≡ errors.Index 20
array_file-fault e fault = let reported = fault_again tests_decide array_file e fault in let read = array_file-read in cc

-- four bytes that are not CA FE BA BE
zeros-fault : IsFault (0 ∷ 0 ∷ 0 ∷ 0 ∷ []) errors.Magic
zeros-fault = inl (inr (record { value = 0; rest = []; parts = refl; item = omega arith; wrong = λ h. absurd (omega (arith, h)); reported = refl }))

-- only two names of methods have < and >; those of fields may
init-names : map method_name_test (codes "<init>" ∷ (codes "<clinit>" ∷ (codes "<x>" ∷ (codes "x" ∷ [])))) ≡ true ∷ (true ∷ (false ∷ (true ∷ [])))
unfolding method_name_test unqualified_name_test
init-names = refl

field-names : map unqualified_name_test (codes "<init>" ∷ (codes "<x>" ∷ (codes "x" ∷ (codes "a.x" ∷ [])))) ≡ true ∷ (true ∷ (true ∷ (false ∷ [])))
unfolding unqualified_name_test
field-names = refl

-- ---- a class file with an interface, a field, a method and an attribute

-- the field's name is one that no method has; 7 is an array's class
unfoldable pub class_b : ClassFile
class_b = record {
  minor = 0;
  major = 52;
  pool = Utf8 (codes "A") ∷ Class 1 ∷ Utf8 (codes "<x>") ∷ Utf8 (codes "I") ∷ Utf8 (codes "()V") ∷ Utf8 (codes "[I") ∷ Class 6 ∷ [];
  flags = 33;
  this_class = 2;
  super_class = 0;
  interfaces = 2 ∷ [];
  fields = record { flags = 9; name = 3; desc = 4; attributes = [] } ∷ [];
  methods = record { flags = 9; name = 1; desc = 5; attributes = [] } ∷ [];
  attributes = record { name = 1; body = (7 ∷ []) } ∷ [];
}

unfoldable pub bytes_b : List ℕ
bytes_b = 202 ∷ 254 ∷ 186 ∷ 190 ∷ 0 ∷ 0 ∷ 0 ∷ 52 ∷ 0 ∷ 8 ∷ 1 ∷ 0 ∷ 1 ∷ 65 ∷ 7 ∷ 0 ∷ 1 ∷ 1 ∷ 0 ∷ 3 ∷ 60 ∷ 120 ∷ 62 ∷ 1 ∷ 0 ∷ 1 ∷ 73 ∷ 1 ∷ 0 ∷ 3 ∷ 40 ∷ 41 ∷ 86 ∷ 1 ∷ 0 ∷ 2 ∷ 91 ∷ 73 ∷ 7 ∷ 0 ∷ 6 ∷ 0 ∷ 33 ∷ 0 ∷ 2 ∷ 0 ∷ 0 ∷ 0 ∷ 1 ∷ 0 ∷ 2 ∷ 0 ∷ 1 ∷ 0 ∷ 9 ∷ 0 ∷ 3 ∷ 0 ∷ 4 ∷ 0 ∷ 0 ∷ 0 ∷ 1 ∷ 0 ∷ 9 ∷ 0 ∷ 1 ∷ 0 ∷ 5 ∷ 0 ∷ 0 ∷ 0 ∷ 1 ∷ 0 ∷ 1 ∷ 0 ∷ 0 ∷ 0 ∷ 1 ∷ 7 ∷ []

pub class_b-bytes : class_bytes class_b ≡ bytes_b
unfolding class_b bytes_b
class_b-bytes = refl

changed_b : ℕ → ℕ → List ℕ
changed_b place byte = take place bytes_b ++ byte ∷ drop (place + 1) bytes_b

-- a method named so, descriptors of the other kind, a class and an array's descriptor as names, arrays, texts and nothing where a class is
-- asked for, an attribute with a class and with nothing as its name, and one that is longer and shorter
files_b : List (List ℕ)
files_b =
    bytes_b
    ∷ ((changed_b 66 3)
    ∷ ((changed_b 68 4)
    ∷ ((changed_b 56 2)
    ∷ ((changed_b 56 6)
    ∷ ((changed_b 58 5)
    ∷ ((changed_b 46 7)
    ∷ ((changed_b 50 7)
    ∷ ((changed_b 50 1)
    ∷ ((changed_b 50 0)
    ∷ ((changed_b 74 2)
    ∷ ((changed_b 74 0)
    ∷ ((changed_b 78 2)
    ∷ ((changed_b 78 0) ∷ [])))))))))))))

answers_b : List (Result ClassFile ClassError)
answers_b =
    Ok class_b
    ∷ ((Err (errors.Index 65))
    ∷ ((Err (errors.Index 67))
    ∷ ((Err (errors.Index 55))
    ∷ ((Err (errors.Index 55))
    ∷ ((Err (errors.Index 57))
    ∷ ((Err (errors.Index 45))
    ∷ ((Err (errors.Index 49))
    ∷ ((Err (errors.Index 49))
    ∷ ((Err (errors.Index 49))
    ∷ ((Err (errors.Index 73))
    ∷ ((Err (errors.Index 73))
    ∷ ((Err (errors.Cut 79))
    ∷ ((Err (errors.Trailing 79)) ∷ [])))))))))))))

files_b-read : map class_file_of files_b ≡ answers_b
unfolding files_b answers_b class_b bytes_b changed_b utf8_at number4_at number8_at named_at paired_at handle_at untagged_at constant_at_cursor slot_at slots_at first_unlinked linked_slots_at pool_at unit_read long_read two_read three_read units_read modified_utf8_test unqualified_name_test method_name_test class_name_test field_descriptor_test method_descriptor_test array_descriptor_test reads_class_name dims_read name_read class_read of_read type_read params_read field_read return_read method_read many_at table_at index_at attribute_at member_at magic_at header_at heading_at class_file_of
files_b-read = refl

-- ---- bodies of Code attributes

-- the four fields of a row, in their order
row-bytes : row_bytes (record { start = 1; end = 2; handler = 3; catch_type = 4 }) ≡ 0 ∷ 1 ∷ 0 ∷ 2 ∷ 0 ∷ 3 ∷ 0 ∷ 4 ∷ []
row-bytes = refl

row-bytes_not : row_bytes (record { start = 1; end = 2; handler = 3; catch_type = 4 }) ≢ row_bytes (record { start = 2; end = 1; handler = 3; catch_type = 4 })
row-bytes_not h = absurd cc

row-read : row_at (record { place = 0; rest = 0 ∷ 1 ∷ 0 ∷ 2 ∷ 0 ∷ 3 ∷ 0 ∷ 4 ∷ [] }) ≡ Ok (record { start = 1; end = 2; handler = 3; catch_type = 4 }, record { place = 8; rest = [] })
unfolding row_at
row-read = refl

longest : IsCodeLength 65535
longest = (omega arith, omega arith)

longest_not : IsCodeLength 65536 → ⊥
longest_not h = omega (arith, h.1)

none_not : IsCodeLength 0 → ⊥
none_not h = omega (arith, h.0)

-- a body with so much code, and nothing else
of_code : List ℕ → CodeInfo
of_code code = record { max_stack = 1; max_locals = 1; code = code; table = []; attributes = [] }

-- 65,535 bytes of code are a body's, whatever they are, and 65,536 are none's
longest-code : (code : List ℕ) → length code ≡ 65535 → IsCode (code_info_bytes (of_code code)) (of_code code)
unfolding of_code
longest-code code len = record {
  spelled = refl;
  valid = record { max_stack = omega arith; max_locals = omega arith; some_code = omega (arith, len); few_code = omega (arith, len); row_count = omega arith; rows = tt; attribute_count = omega arith; attributes = tt };
}

longer-code_not : (body : List ℕ) (c : CodeInfo) → length c.code ≡ 65536 → IsCode body c → ⊥
longer-code_not body c len is = omega (arith, len, is.valid.few_code)

no-code_not : (body : List ℕ) (c : CodeInfo) → length c.code ≡ 0 → IsCode body c → ⊥
no-code_not body c len is = omega (arith, len, is.valid.some_code)

-- the length 65,535 is asked for its bytes, and 65,536 refused where it stands
lengths-read : map code_read ((0 ∷ 1 ∷ 0 ∷ 1 ∷ 0 ∷ 0 ∷ 255 ∷ 255 ∷ 177 ∷ []) ∷ ((0 ∷ 1 ∷ 0 ∷ 1 ∷ 0 ∷ 1 ∷ 0 ∷ 0 ∷ 177 ∷ []) ∷ ((0 ∷ 1 ∷ 0 ∷ 1 ∷ 0 ∷ 0 ∷ 0 ∷ 0 ∷ []) ∷ []))) ≡ Err (errors.Cut 8) ∷ (Err (errors.Index 4) ∷ (Err (errors.Index 4) ∷ []))
unfolding code_read code_prefix_at code_length_at
lengths-read = refl

length-fault : IsCodeFault (0 ∷ 1 ∷ 0 ∷ 1 ∷ 0 ∷ 1 ∷ 0 ∷ 0 ∷ []) (errors.Index 4)
length-fault = inr (record {
  value = 1;
  rest = 0 ∷ 1 ∷ 0 ∷ 1 ∷ 0 ∷ 0 ∷ [];
  parts = refl;
  good = omega arith;
  fault =
      inr (record {
        value = 1;
        rest = 0 ∷ 1 ∷ 0 ∷ 0 ∷ [];
        parts = refl;
        good = omega arith;
        fault =
            inl (inr (record { value = 65536; rest = []; parts = refl; item = omega arith; wrong = longest_not; reported = refl }));
      });
})

-- ---- access flags

-- each flag's value, as JVMS tables 4.1-A, 4.5-A and 4.6-A have it
flags-are : access_table ≡
    (codes "PUBLIC", 1) ∷ (codes "PRIVATE", 2) ∷ (codes "PROTECTED", 4) ∷ (codes "STATIC", 8) ∷ (codes "FINAL", 16) ∷ (codes "SUPER", 32)
    ∷ (codes "SYNCHRONIZED", 32) ∷ (codes "VOLATILE", 64) ∷ (codes "BRIDGE", 64) ∷ (codes "TRANSIENT", 128) ∷ (codes "VARARGS", 128) ∷ (codes "NATIVE", 256)
    ∷ (codes "INTERFACE", 512) ∷ (codes "ABSTRACT", 1024) ∷ (codes "STRICT", 2048) ∷ (codes "SYNTHETIC", 4096) ∷ (codes "ANNOTATION", 8192) ∷ (codes "ENUM", 16384) ∷ []
flags-are = refl
