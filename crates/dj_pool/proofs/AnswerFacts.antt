-- What reading a pool answers, at plain values: the answer that is right, and of each kind one that is wrong.
use Rattle.std.proofs.Common.{◌≡◌, ℕ, zero, suc, true, nat_lt, List, [], ◌∷◌, Ok, Err, refl, arith}
use Rattle.std.specs.Prelude.{codes}
use Rattle.std.specs.List.{list_all}
use Rattle.std.proofs.lemmas.Bool.{and_parts}
use Rattle.std.proofs.lemmas.Bool.Decides.{nat_tests}
use Rattle.dj_cursor.proofs.Bytes.{IsBytes}
use Rattle.dj_names.specs.trusted.NameReading.{reads_class_name}
use Rattle.dj_names.specs.trusted.DescReading.{dims_read, name_read, class_read, of_read, type_read, params_read, field_read, return_read, method_read}
use Rattle.dj_names.specs.trusted.UnitReading.{unit_read, long_read, two_read, three_read}
use Rattle.dj_names.specs.trusted.Tests.{units_read}
use Rattle.dj_names.specs.Tests.{unqualified_name_test, method_name_test, class_name_test, modified_utf8_test, field_descriptor_test, method_descriptor_test, array_descriptor_test}
use Rattle.dj_pool.specs.declared.pool.PoolError.{PoolError}
use Rattle.dj_pool.specs.declared.pool.PoolError.TheVariants as pool_errors
use Rattle.dj_pool.specs.trusted.Pool.{Constant, Utf8, Text}
use Rattle.dj_pool.specs.Answers.{ReadsPool}
use Rattle.dj_pool.specs.Reading.{utf8_at, number4_at, number8_at, named_at, paired_at, handle_at, untagged_at, constant_at_cursor, slot_at, slots_at, first_unlinked, linked_slots_at, pool_at, pool_from}
use Rattle.dj_pool.proofs.Decides.{tests_decide}
use Rattle.dj_pool.proofs.PoolAnswers.{reads_pool, one_pool, one_fault, no_pool_where_fault}
use Rattle.dj_pool.proofs.Facts.{class_pool, class_pool-stands, long_at_end, long_at_end-fault}

-- numbers that are bytes, where each passes the test
pub are_bytes : (bytes : List ℕ) → list_all (λ (b : ℕ). nat_lt b 256) bytes ≡ true → IsBytes bytes
are_bytes [] h i = omega arith
are_bytes (b ∷ bs) h zero = let small : nat_lt b 256 ≡ true = (and_parts (nat_lt b 256) (list_all (λ (x : ℕ). nat_lt x 256) bs) h).0 in grind (arith, nat_tests)
are_bytes (b ∷ bs) h (suc i) = are_bytes bs (and_parts (nat_lt b 256) (list_all (λ (x : ℕ). nat_lt x 256) bs) h).1 i

-- ---- a pool that stands at 1 and ends before 10

abbrev class_bytes : List ℕ
class_bytes = 9 ∷ 0 ∷ 3 ∷ 7 ∷ 0 ∷ 2 ∷ 1 ∷ 0 ∷ 1 ∷ 65 ∷ 9 ∷ []

good-read : ReadsPool class_bytes 1 (Ok (class_pool, 10))
good-read = class_pool-stands

-- and no other, which ends nowhere else
good-read_alone : (pool : List Constant) (next : ℕ) → ReadsPool class_bytes 1 (Ok (pool, next)) → (pool ≡ class_pool) × (next ≡ 10)
good-read_alone pool next h = let same = one_pool class_bytes 1 pool class_pool next 10 h class_pool-stands in (same.pool, same.next)

short-read_not : ReadsPool class_bytes 1 (Ok (class_pool, 9)) → ⊥
short-read_not h = omega (arith, (good-read_alone class_pool 9 h).1)

other-read_not : ReadsPool class_bytes 1 (Ok (Text 2 ∷ Utf8 (codes "A") ∷ [], 10)) → ⊥
unfolding class_pool
other-read_not h = let same = (good-read_alone _ 10 h).0 in absurd cc

-- nothing is reported to be wrong with it but that memory ran out
good-refused : (e : PoolError) → ReadsPool class_bytes 1 (Err e) → e ≡ pool_errors.Memory
good-refused pool_errors.Memory h = refl
good-refused (pool_errors.Cut place) h = absurd (no_pool_where_fault class_bytes 1 class_pool 10 (pool_errors.Cut place) class_pool-stands h)
good-refused (pool_errors.Tag place) h = absurd (no_pool_where_fault class_bytes 1 class_pool 10 (pool_errors.Tag place) class_pool-stands h)
good-refused (pool_errors.Link index) h = absurd (no_pool_where_fault class_bytes 1 class_pool 10 (pool_errors.Link index) class_pool-stands h)
good-refused (pool_errors.Text index) h = absurd (no_pool_where_fault class_bytes 1 class_pool 10 (pool_errors.Text index) class_pool-stands h)

good-cut_not : ReadsPool class_bytes 1 (Err (pool_errors.Cut 2)) → ⊥
good-cut_not h = let reported = good-refused (pool_errors.Cut 2) h in absurd cc

-- at 0 stands none: the first two bytes would be the count, an int follows, and then no tag
elsewhere-read : ReadsPool class_bytes 0 (Err (pool_errors.Tag 7))
unfolding utf8_at number4_at number8_at named_at paired_at handle_at untagged_at constant_at_cursor slot_at slots_at first_unlinked linked_slots_at pool_at pool_from
elsewhere-read = reads_pool tests_decide class_bytes 0 (Err (pool_errors.Tag 7)) (are_bytes class_bytes refl) refl

elsewhere-read_not : (pool : List Constant) (next : ℕ) → ReadsPool class_bytes 0 (Ok (pool, next)) → ⊥
elsewhere-read_not pool next h = no_pool_where_fault class_bytes 0 pool next _ h elsewhere-read

-- ---- faults

-- both classes name a text that is not there: the first is reported
two_unlinked : List ℕ
two_unlinked = 0 ∷ 3 ∷ 7 ∷ 0 ∷ 9 ∷ 7 ∷ 0 ∷ 9 ∷ []

unlinked-read : ReadsPool two_unlinked 0 (Err (pool_errors.Link 1))
unfolding two_unlinked utf8_at number4_at number8_at named_at paired_at handle_at untagged_at constant_at_cursor slot_at slots_at first_unlinked linked_slots_at pool_at pool_from unit_read long_read two_read three_read units_read modified_utf8_test unqualified_name_test method_name_test class_name_test field_descriptor_test method_descriptor_test array_descriptor_test reads_class_name dims_read name_read class_read of_read type_read params_read field_read return_read method_read
unlinked-read = reads_pool tests_decide two_unlinked 0 (Err (pool_errors.Link 1)) (are_bytes two_unlinked refl) refl

unlinked-second_not : ReadsPool two_unlinked 0 (Err (pool_errors.Link 2)) → ⊥
unlinked-second_not h = let same = one_fault two_unlinked 0 _ _ h unlinked-read in absurd cc

unlinked-tag_not : ReadsPool two_unlinked 0 (Err (pool_errors.Tag 1)) → ⊥
unlinked-tag_not h = let same = one_fault two_unlinked 0 _ _ h unlinked-read in absurd cc

unlinked-pool_not : (pool : List Constant) (next : ℕ) → ReadsPool two_unlinked 0 (Ok (pool, next)) → ⊥
unlinked-pool_not pool next h = no_pool_where_fault two_unlinked 0 pool next _ h unlinked-read

-- a long without its second index
long-read : ReadsPool long_at_end 0 (Err (pool_errors.Link 1))
long-read = long_at_end-fault

long-second_not : ReadsPool long_at_end 0 (Err (pool_errors.Link 2)) → ⊥
long-second_not h = let same = one_fault long_at_end 0 _ _ h long_at_end-fault in absurd cc

-- a tag that is none, two bytes before a text that is cut: the place is the file's
no_tag : List ℕ
no_tag = 8 ∷ 0 ∷ 3 ∷ 2 ∷ 1 ∷ 0 ∷ 9 ∷ []

tag-read : ReadsPool no_tag 1 (Err (pool_errors.Tag 3))
unfolding no_tag utf8_at number4_at number8_at named_at paired_at handle_at untagged_at constant_at_cursor slot_at slots_at first_unlinked linked_slots_at pool_at pool_from
tag-read = reads_pool tests_decide no_tag 1 (Err (pool_errors.Tag 3)) (are_bytes no_tag refl) refl

tag-place_not : ReadsPool no_tag 1 (Err (pool_errors.Tag 2)) → ⊥
tag-place_not h = let same = one_fault no_tag 1 _ _ h tag-read in absurd cc

tag-cut_not : ReadsPool no_tag 1 (Err (pool_errors.Cut 3)) → ⊥
tag-cut_not h = let same = one_fault no_tag 1 _ _ h tag-read in absurd cc

-- a text that is cut, and one that is no modified UTF-8
cut_text : List ℕ
cut_text = 0 ∷ 2 ∷ 1 ∷ 0 ∷ 3 ∷ 65 ∷ 66 ∷ []

cut-read : ReadsPool cut_text 0 (Err (pool_errors.Cut 5))
unfolding cut_text utf8_at number4_at number8_at named_at paired_at handle_at untagged_at constant_at_cursor slot_at slots_at first_unlinked linked_slots_at pool_at pool_from
cut-read = reads_pool tests_decide cut_text 0 (Err (pool_errors.Cut 5)) (are_bytes cut_text refl) refl

cut-place_not : ReadsPool cut_text 0 (Err (pool_errors.Cut 7)) → ⊥
cut-place_not h = let same = one_fault cut_text 0 _ _ h cut-read in absurd cc

wrong_text : List ℕ
wrong_text = 0 ∷ 3 ∷ 1 ∷ 0 ∷ 1 ∷ 65 ∷ 1 ∷ 0 ∷ 1 ∷ 255 ∷ []

text-read : ReadsPool wrong_text 0 (Err (pool_errors.Text 2))
unfolding wrong_text utf8_at number4_at number8_at named_at paired_at handle_at untagged_at constant_at_cursor slot_at slots_at first_unlinked linked_slots_at pool_at pool_from unit_read long_read two_read three_read units_read modified_utf8_test
text-read = reads_pool tests_decide wrong_text 0 (Err (pool_errors.Text 2)) (are_bytes wrong_text refl) refl

text-index_not : ReadsPool wrong_text 0 (Err (pool_errors.Text 1)) → ⊥
text-index_not h = let same = one_fault wrong_text 0 _ _ h text-read in absurd cc

text-link_not : ReadsPool wrong_text 0 (Err (pool_errors.Link 2)) → ⊥
text-link_not h = let same = one_fault wrong_text 0 _ _ h text-read in absurd cc
