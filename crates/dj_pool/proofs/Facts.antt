-- The definitions at plain values: the bytes of each constant, what is linked and what is not, pools and faults.
use Rattle.std.proofs.Common.{◌≡◌, ◌≢◌, ℕ, zero, suc, ◌<◌, Bool, true, false, not, ◌&&◌, List, [], ◌∷◌, map, take, replicate, Some, None, Result, Ok, Err, pos, negsuc, FitsSigned, refl, arith, inl, inr}
use Rattle.std.specs.Prelude.{nat_eq, codes}
use Rattle.std.specs.List.{flat_map, list_any}
use Rattle.std.specs.Int.{w64}
use Rattle.std.proofs.lemmas.Int.{ints}
use Rattle.dj_cursor.specs.Reading.{cursor_at}
use Rattle.dj_names.specs.trusted.NameReading.{reads_class_name}
use Rattle.dj_names.specs.trusted.DescReading.{dims_read, name_read, class_read, of_read, type_read, params_read, field_read, return_read, method_read}
use Rattle.dj_names.specs.trusted.UnitReading.{unit_read, long_read, two_read, three_read}
use Rattle.dj_names.specs.trusted.Tests.{units_read}
use Rattle.dj_names.specs.Tests.{unqualified_name_test, method_name_test, class_name_test, modified_utf8_test, field_descriptor_test, method_descriptor_test, array_descriptor_test}
use Rattle.dj_names.proofs.TestLaws.{class_name_test-decides}
use Rattle.dj_pool.specs.declared.pool.PoolError.{PoolError}
use Rattle.dj_pool.specs.declared.pool.PoolError.TheVariants as pool_errors
use Rattle.dj_pool.specs.trusted.Pool.{Constant, Utf8, Integer, Float, Long, Double, Class, Text, Field, Method, InterfaceMethod, NameAndType, Handle, MethodType, Dynamic, Hole, indexed, constant_bytes, constant_at, text_at, class_name_at, name_and_type_at}
use Rattle.dj_pool.specs.Pool.{member_at}
use Rattle.dj_pool.specs.Faults.{tags, IsMislinked, PoolFault}
use Rattle.dj_pool.specs.Answers.{IsPoolAt}
use Rattle.dj_pool.specs.Tests.{is_linked, is_fit}
use Rattle.dj_pool.specs.Reading.{utf8_at, number4_at, number8_at, named_at, paired_at, handle_at, untagged_at, constant_at_cursor, slot_at, slots_at, first_unlinked, linked_slots_at, pool_at, pool_from}
use Rattle.dj_pool.proofs.PoolAnswers.{no_pool_where_fault, one_fault}

-- ---- bytes

every : List Constant
every = Utf8 (codes "A") ∷ (Integer (negsuc 1) ∷ (Float 258 ∷ (Long (negsuc 1) ∷ (Double 258 ∷ (Class 258 ∷ (Text 258 ∷ (Field 1 258 ∷ (Method 1 258 ∷ (InterfaceMethod 1 258 ∷ (NameAndType 1 258 ∷ (Handle 3 258 ∷ (MethodType 258 ∷ (Dynamic 1 258 ∷ (Hole ∷ []))))))))))))))

every-bytes : map constant_bytes every
    ≡ (1 ∷ 0 ∷ 1 ∷ 65 ∷ []) ∷ ((3 ∷ 255 ∷ 255 ∷ 255 ∷ 254 ∷ []) ∷ ((4 ∷ 0 ∷ 0 ∷ 1 ∷ 2 ∷ []) ∷ ((5 ∷ 255 ∷ 255 ∷ 255 ∷ 255 ∷ 255 ∷ 255 ∷ 255 ∷ 254 ∷ []) ∷ ((6 ∷ 0 ∷ 0 ∷ 0 ∷ 0 ∷ 0 ∷ 0 ∷ 1 ∷ 2 ∷ [])
    ∷ ((7 ∷ 1 ∷ 2 ∷ []) ∷ ((8 ∷ 1 ∷ 2 ∷ []) ∷ ((9 ∷ 0 ∷ 1 ∷ 1 ∷ 2 ∷ []) ∷ ((10 ∷ 0 ∷ 1 ∷ 1 ∷ 2 ∷ []) ∷ ((11 ∷ 0 ∷ 1 ∷ 1 ∷ 2 ∷ []) ∷ ((12 ∷ 0 ∷ 1 ∷ 1 ∷ 2 ∷ [])
    ∷ ((15 ∷ 3 ∷ 1 ∷ 2 ∷ []) ∷ ((16 ∷ 1 ∷ 2 ∷ []) ∷ ((18 ∷ 0 ∷ 1 ∷ 1 ∷ 2 ∷ []) ∷ ([] ∷ []))))))))))))))
unfolding every
every-bytes = refl

-- each kind has a tag of its own: no first byte stands among the later ones
tags-are : flat_map (λ (k : Constant). take 1 (constant_bytes k)) every ≡ tags
unfolding every
tags-are = refl

all_differ : List ℕ → Bool
all_differ [] = true
all_differ (tag ∷ others) = not (list_any (nat_eq tag) others) && all_differ others

tags-differ : all_differ (flat_map (λ (k : Constant). take 1 (constant_bytes k)) every) ≡ true
unfolding every all_differ
tags-differ = refl

tags-differ_not : all_differ (9 ∷ 10 ∷ 9 ∷ []) ≡ false
unfolding all_differ
tags-differ_not = refl

-- the length of a text is that of its bytes, in two bytes
text-bytes : (constant_bytes (Utf8 (195 ∷ 169 ∷ [])) ≡ 1 ∷ 0 ∷ 2 ∷ 195 ∷ 169 ∷ []) × (take 4 (constant_bytes (Utf8 (replicate 258 65))) ≡ 1 ∷ 1 ∷ 2 ∷ 65 ∷ [])
text-bytes = (refl, refl)

text-bytes_not : constant_bytes (Utf8 (195 ∷ 169 ∷ [])) ≢ 1 ∷ 0 ∷ 1 ∷ 195 ∷ 169 ∷ []
text-bytes_not h = absurd cc

-- a field is spelled as no method
field-bytes_not : constant_bytes (Field 1 2) ≢ constant_bytes (Method 1 2)
field-bytes_not h = absurd cc

-- a long takes two indexes, an int one
long-indexed : indexed (Long (pos 1) ∷ (Integer (pos 2) ∷ [])) ≡ Long (pos 1) ∷ (Hole ∷ (Integer (pos 2) ∷ []))
unfolding indexed
long-indexed = refl

long-indexed_not : indexed (Long (pos 1) ∷ []) ≢ Long (pos 1) ∷ []
unfolding indexed
long-indexed_not h = absurd cc

-- ---- links

-- 1 a name, 2 a class, 3 and 4 descriptors of a field and of a method, 5 and 6 names with them, 7 a field, 8 a method, 9 a long, 10 its hole, 11 a name that no method has, 12 a text that no class has
some_pool : List Constant
some_pool =
    Utf8 (codes "A") ∷ (Class 1 ∷ (Utf8 (codes "I") ∷ (Utf8 (codes "()V") ∷ (NameAndType 1 3 ∷ (NameAndType 1 4 ∷ (Field 2 5 ∷ (Method 2 6 ∷ (Long (pos 1) ∷ (Hole ∷ (Utf8 (codes "<x>") ∷ (Utf8 (codes "[V") ∷ [])))))))))))

-- each kind of index with what it may name, and with what it may not
links-are : map (is_linked some_pool) (
    Class 1 ∷ (Class 4 ∷ (Class 12 ∷ (Class 11 ∷ (Class 2 ∷ (Class 0 ∷ (Class 10 ∷ (Class 13 ∷ (
    Text 1 ∷ (Text 4 ∷ (Text 2 ∷ (Text 10 ∷ (
    Field 2 5 ∷ (Field 2 6 ∷ (Field 1 5 ∷ (Field 5 5 ∷ (Field 2 1 ∷ (Field 2 2 ∷ (
    Method 2 6 ∷ (Method 2 5 ∷ (Method 7 6 ∷ (Method 2 4 ∷ (
    InterfaceMethod 2 6 ∷ (InterfaceMethod 2 5 ∷ (InterfaceMethod 10 6 ∷ (
    NameAndType 1 3 ∷ (NameAndType 1 4 ∷ (NameAndType 11 3 ∷ (NameAndType 11 4 ∷ (NameAndType 1 1 ∷ (NameAndType 2 3 ∷ (NameAndType 1 10 ∷ (
    Handle 0 7 ∷ (Handle 255 8 ∷ (Handle 6 2 ∷ (Handle 6 5 ∷ (
    MethodType 4 ∷ (MethodType 3 ∷ (MethodType 2 ∷ (
    Dynamic 65535 6 ∷ (Dynamic 0 5 ∷ (Dynamic 0 8 ∷ []
    ))))))))))))))))))))))))))))))))))))))))))
    ≡ true ∷ (true ∷ (false ∷ (true ∷ (false ∷ (false ∷ (false ∷ (false ∷ (
    true ∷ (true ∷ (false ∷ (false ∷ (
    true ∷ (false ∷ (false ∷ (false ∷ (false ∷ (false ∷ (
    true ∷ (false ∷ (false ∷ (false ∷ (
    true ∷ (false ∷ (false ∷ (
    true ∷ (true ∷ (true ∷ (false ∷ (false ∷ (false ∷ (false ∷ (
    true ∷ (true ∷ (false ∷ (false ∷ (
    true ∷ (false ∷ (false ∷ (
    true ∷ (false ∷ (false ∷ []
    )))))))))))))))))))))))))))))))))))))))))
unfolding some_pool unqualified_name_test method_name_test class_name_test field_descriptor_test method_descriptor_test array_descriptor_test reads_class_name dims_read name_read class_read of_read type_read params_read field_read return_read method_read
links-are = refl

-- a long at the last index has no room for its second
long-last : map (λ (i : ℕ). is_fit some_pool i (Long (pos 1))) (11 ∷ (12 ∷ [])) ≡ true ∷ (false ∷ [])
unfolding some_pool
long-last = refl

-- ---- looking up

looks-up : (member_at some_pool 7 ≡ Some (codes "A", (codes "A", codes "I"))) × (name_and_type_at some_pool 6 ≡ Some (codes "A", codes "()V")) × (class_name_at some_pool 2 ≡ Some (codes "A")) × (constant_at some_pool 10 ≡ Some Hole)
unfolding some_pool
looks-up = (refl, refl, refl, refl)

looks-up_not : (member_at some_pool 5 ≡ None) × (name_and_type_at some_pool 7 ≡ None) × (class_name_at some_pool 1 ≡ None) × (text_at some_pool 2 ≡ None) × (constant_at some_pool 0 ≡ None) × (constant_at some_pool 13 ≡ None)
unfolding some_pool
looks-up_not = (refl, refl, refl, refl, refl, refl)

-- ---- pools and their faults

pools : List (List ℕ × ℕ)
pools =
    (0 ∷ 1 ∷ [], 0)
    ∷ ((0 ∷ 2 ∷ 1 ∷ 0 ∷ 6 ∷ 97 ∷ 192 ∷ 128 ∷ 226 ∷ 130 ∷ 172 ∷ 255 ∷ [], 0)
    ∷ ((0 ∷ 2 ∷ 3 ∷ 255 ∷ 255 ∷ 255 ∷ 255 ∷ [], 0)
    ∷ ((0 ∷ 2 ∷ 4 ∷ 127 ∷ 192 ∷ 0 ∷ 0 ∷ [], 0)
    ∷ ((0 ∷ 3 ∷ 5 ∷ 255 ∷ 255 ∷ 255 ∷ 255 ∷ 255 ∷ 255 ∷ 255 ∷ 255 ∷ [], 0)
    ∷ ((0 ∷ 3 ∷ 6 ∷ 128 ∷ 0 ∷ 0 ∷ 0 ∷ 0 ∷ 0 ∷ 0 ∷ 0 ∷ [], 0)
    ∷ ((0 ∷ 3 ∷ 7 ∷ 0 ∷ 2 ∷ 1 ∷ 0 ∷ 1 ∷ 65 ∷ [], 0)
    ∷ ((0 ∷ 3 ∷ 8 ∷ 0 ∷ 2 ∷ 1 ∷ 0 ∷ 0 ∷ [], 0)
    ∷ ((0 ∷ 3 ∷ 16 ∷ 0 ∷ 2 ∷ 1 ∷ 0 ∷ 3 ∷ 40 ∷ 41 ∷ 86 ∷ [], 0)
    ∷ ((0 ∷ 4 ∷ 12 ∷ 0 ∷ 2 ∷ 0 ∷ 3 ∷ 1 ∷ 0 ∷ 1 ∷ 120 ∷ 1 ∷ 0 ∷ 1 ∷ 73 ∷ [], 0)
    ∷ ((0 ∷ 7 ∷ 9 ∷ 0 ∷ 2 ∷ 0 ∷ 3 ∷ 7 ∷ 0 ∷ 4 ∷ 12 ∷ 0 ∷ 5 ∷ 0 ∷ 6 ∷ 1 ∷ 0 ∷ 1 ∷ 65 ∷ 1 ∷ 0 ∷ 1 ∷ 120 ∷ 1 ∷ 0 ∷ 1 ∷ 74 ∷ [], 0)
    ∷ ((0 ∷ 5 ∷ 18 ∷ 255 ∷ 255 ∷ 0 ∷ 2 ∷ 12 ∷ 0 ∷ 3 ∷ 0 ∷ 4 ∷ 1 ∷ 0 ∷ 1 ∷ 120 ∷ 1 ∷ 0 ∷ 3 ∷ 40 ∷ 41 ∷ 86 ∷ [], 0)
    ∷ ((0 ∷ 8 ∷ 15 ∷ 0 ∷ 0 ∷ 2 ∷ 9 ∷ 0 ∷ 3 ∷ 0 ∷ 4 ∷ 7 ∷ 0 ∷ 5 ∷ 12 ∷ 0 ∷ 6 ∷ 0 ∷ 7 ∷ 1 ∷ 0 ∷ 1 ∷ 65 ∷ 1 ∷ 0 ∷ 1 ∷ 120 ∷ 1 ∷ 0 ∷ 1 ∷ 73 ∷ [], 0)
    ∷ ((0 ∷ 0 ∷ 0 ∷ 0 ∷ [], 3)
    ∷ ((0 ∷ 3 ∷ 9 ∷ 0 ∷ 0 ∷ [], 0)
    ∷ ((0 ∷ 2 ∷ 13 ∷ 0 ∷ 0 ∷ 0 ∷ 0 ∷ 0 ∷ 0 ∷ 0 ∷ 0 ∷ [], 0)
    ∷ ((0 ∷ 0 ∷ [], 0)
    ∷ ((0 ∷ 3 ∷ 1 ∷ 0 ∷ 1 ∷ 97 ∷ 1 ∷ 0 ∷ 2 ∷ 195 ∷ 65 ∷ [], 0)
    ∷ ((0 ∷ 4 ∷ 7 ∷ 0 ∷ 9 ∷ 1 ∷ 0 ∷ 1 ∷ 65 ∷ [], 0)
    ∷ ((0 ∷ 3 ∷ 7 ∷ 0 ∷ 2 ∷ 3 ∷ 0 ∷ 0 ∷ 0 ∷ 7 ∷ [], 0)
    ∷ ((0 ∷ 2 ∷ 5 ∷ 0 ∷ 0 ∷ 0 ∷ 0 ∷ 0 ∷ 0 ∷ 0 ∷ 1 ∷ [], 0)
    ∷ ((0 ∷ 4 ∷ 5 ∷ 0 ∷ 0 ∷ 0 ∷ 0 ∷ 0 ∷ 0 ∷ 0 ∷ 1 ∷ 5 ∷ 0 ∷ 0 ∷ 0 ∷ 0 ∷ 0 ∷ 0 ∷ 0 ∷ 1 ∷ [], 0)
    ∷ ((0 ∷ 4 ∷ 1 ∷ 0 ∷ 1 ∷ 97 ∷ 7 ∷ 0 ∷ 9 ∷ 5 ∷ 0 ∷ 0 ∷ 0 ∷ 0 ∷ 0 ∷ 0 ∷ 0 ∷ 1 ∷ [], 0)
    ∷ ((0 ∷ 4 ∷ 12 ∷ 0 ∷ 2 ∷ 0 ∷ 3 ∷ 1 ∷ 0 ∷ 3 ∷ 60 ∷ 120 ∷ 62 ∷ 1 ∷ 0 ∷ 3 ∷ 40 ∷ 41 ∷ 86 ∷ [], 0)
    ∷ ((0 ∷ 4 ∷ 12 ∷ 0 ∷ 2 ∷ 0 ∷ 3 ∷ 1 ∷ 0 ∷ 3 ∷ 60 ∷ 120 ∷ 62 ∷ 1 ∷ 0 ∷ 1 ∷ 73 ∷ [], 0)
    ∷ ((0 ∷ 7 ∷ 9 ∷ 0 ∷ 2 ∷ 0 ∷ 3 ∷ 7 ∷ 0 ∷ 4 ∷ 12 ∷ 0 ∷ 5 ∷ 0 ∷ 6 ∷ 1 ∷ 0 ∷ 1 ∷ 65 ∷ 1 ∷ 0 ∷ 3 ∷ 97 ∷ 46 ∷ 98 ∷ 1 ∷ 0 ∷ 1 ∷ 74 ∷ [], 0)
    ∷ ((0 ∷ 3 ∷ 15 ∷ 1 ∷ 0 ∷ 2 ∷ 15 ∷ 1 ∷ 0 ∷ 1 ∷ [], 0) ∷ []))))))))))))))))))))))))))

answers : List (Result (List Constant × ℕ) PoolError)
answers =
    Ok ([], 2)
    ∷ (Ok ((Utf8 (97 ∷ 192 ∷ 128 ∷ 226 ∷ 130 ∷ 172 ∷ [])) ∷ [], 11)
    ∷ (Ok ((Integer (negsuc 0)) ∷ [], 7)
    ∷ (Ok ((Float 2143289344) ∷ [], 7)
    ∷ (Ok ((Long (negsuc 0)) ∷ Hole ∷ [], 11)
    ∷ (Ok ((Double 9223372036854775808) ∷ Hole ∷ [], 11)
    ∷ (Ok ((Class 2) ∷ (Utf8 (65 ∷ [])) ∷ [], 9)
    ∷ (Ok ((Text 2) ∷ (Utf8 ([])) ∷ [], 8)
    ∷ (Ok ((MethodType 2) ∷ (Utf8 (40 ∷ 41 ∷ 86 ∷ [])) ∷ [], 11)
    ∷ (Ok ((NameAndType 2 3) ∷ (Utf8 (120 ∷ [])) ∷ (Utf8 (73 ∷ [])) ∷ [], 15)
    ∷ (Ok ((Field 2 3) ∷ (Class 4) ∷ (NameAndType 5 6) ∷ (Utf8 (65 ∷ [])) ∷ (Utf8 (120 ∷ [])) ∷ (Utf8 (74 ∷ [])) ∷ [], 27)
    ∷ (Ok ((Dynamic 65535 2) ∷ (NameAndType 3 4) ∷ (Utf8 (120 ∷ [])) ∷ (Utf8 (40 ∷ 41 ∷ 86 ∷ [])) ∷ [], 22)
    ∷ (Ok ((Handle 0 2) ∷ (Field 3 4) ∷ (Class 5) ∷ (NameAndType 6 7) ∷ (Utf8 (65 ∷ [])) ∷ (Utf8 (120 ∷ [])) ∷ (Utf8 (73 ∷ [])) ∷ [], 31)
    ∷ (Err (pool_errors.Cut 3)
    ∷ (Err (pool_errors.Cut 5)
    ∷ (Err (pool_errors.Tag 2)
    ∷ (Err (pool_errors.Tag 0)
    ∷ (Err (pool_errors.Text 2)
    ∷ (Err (pool_errors.Cut 9)
    ∷ (Err (pool_errors.Link 1)
    ∷ (Err (pool_errors.Link 1)
    ∷ (Err (pool_errors.Link 3)
    ∷ (Err (pool_errors.Link 2)
    ∷ (Err (pool_errors.Link 1)
    ∷ (Ok ((NameAndType 2 3) ∷ (Utf8 (60 ∷ 120 ∷ 62 ∷ [])) ∷ (Utf8 (73 ∷ [])) ∷ [], 17)
    ∷ (Err (pool_errors.Link 3)
    ∷ (Err (pool_errors.Link 1) ∷ []))))))))))))))))))))))))))

pools-read : map (λ (x : List ℕ × ℕ). pool_from x.0 x.1) pools ≡ answers
unfolding pools answers utf8_at number4_at number8_at named_at paired_at handle_at untagged_at constant_at_cursor slot_at slots_at first_unlinked linked_slots_at pool_at pool_from unit_read long_read two_read three_read units_read modified_utf8_test unqualified_name_test method_name_test class_name_test field_descriptor_test method_descriptor_test array_descriptor_test reads_class_name dims_read name_read class_read of_read type_read params_read field_read return_read method_read
pools-read = refl

-- a class and its text
unfoldable pub class_pool : List Constant
class_pool = Class 2 ∷ (Utf8 (codes "A") ∷ [])

pub class_pool-stands : IsPoolAt (9 ∷ 0 ∷ 3 ∷ 7 ∷ 0 ∷ 2 ∷ 1 ∷ 0 ∷ 1 ∷ 65 ∷ 9 ∷ []) 1 class_pool 10
unfolding class_pool indexed class_name_test reads_class_name
class_pool-stands = record {
  rest = 9 ∷ [];
  parts = refl;
  next_is = refl;
  valid = record { constants = class_pool; indexes = refl; each = ((omega arith, inl ((class_name_test-decides (codes "A")).0 refl)), (((omega arith, (codes "A", record { text_is = refl; units_fit = (omega arith, tt) })), tt), tt)); count = omega arith };
}

-- a long alone, at the last index below the count
pub long_at_end : List ℕ
long_at_end = 0 ∷ 2 ∷ 5 ∷ 0 ∷ 0 ∷ 0 ∷ 0 ∷ 0 ∷ 0 ∷ 0 ∷ 1 ∷ []

none_lower : (i : ℕ) (k : Constant) → i < 1 → constant_at (Long (pos 1) ∷ []) i ≡ Some k → IsMislinked 2 (Long (pos 1) ∷ []) i k → ⊥
none_lower zero k lt at wrong = absurd cc
none_lower (suc i) k lt at wrong = absurd (omega (arith, lt))

long_fits : FitsSigned w64 (pos 1)
long_fits = omega (arith, ints)

pub long_at_end-fault : PoolFault (cursor_at 0 long_at_end) (pool_errors.Link 1)
unfolding long_at_end indexed
long_at_end-fault = inr (record {
  value = 2;
  rest = 5 ∷ 0 ∷ 0 ∷ 0 ∷ 0 ∷ 0 ∷ 0 ∷ 0 ∷ 1 ∷ [];
  parts = refl;
  good = (omega arith, omega arith);
  fault = inr (record {
    prefix = [];
    last = Long (pos 1);
    rest = [];
    parts = refl;
    whole = (long_fits, tt);
    below = omega arith;
    all = omega arith;
    pool = Long (pos 1) ∷ [];
    pool_is = refl;
    index = 1;
    constant = Long (pos 1);
    at = refl;
    wrong = inr (refl, omega arith);
    lowest = none_lower;
    reported = refl;
  });
})

-- and it is no other fault, and no pool
long_at_end-not_cut : PoolFault (cursor_at 0 long_at_end) (pool_errors.Cut 2) → ⊥
long_at_end-not_cut h = let same = one_fault long_at_end 0 _ _ h long_at_end-fault in absurd cc

long_at_end-no_pool : (pool : List Constant) (next : ℕ) → IsPoolAt long_at_end 0 pool next → ⊥
long_at_end-no_pool pool next p = no_pool_where_fault long_at_end 0 pool next _ p long_at_end-fault
