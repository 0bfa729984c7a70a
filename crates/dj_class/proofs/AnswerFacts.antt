-- What reading a class file answers, at plain values: the answer that is right, and of each kind one that is wrong.
use Rattle.std.proofs.Common.{◌≡◌, ℕ, ◌∷◌, [], List, ◌++◌, take, Ok, Err, true, refl, sym, ap, subst, ◌∙◌, arith}
use Rattle.dj_cursor.specs.Reading.{many_at, table_at}
use Rattle.dj_names.specs.trusted.NameReading.{reads_class_name}
use Rattle.dj_names.specs.trusted.DescReading.{dims_read, name_read, class_read, of_read, type_read, params_read, field_read, return_read, method_read}
use Rattle.dj_names.specs.trusted.UnitReading.{unit_read, long_read, two_read, three_read}
use Rattle.dj_names.specs.trusted.Tests.{units_read}
use Rattle.dj_names.specs.Tests.{unqualified_name_test, method_name_test, class_name_test, modified_utf8_test, field_descriptor_test, method_descriptor_test, array_descriptor_test}
use Rattle.dj_pool.specs.declared.pool.PoolError.TheVariants as pool_errors
use Rattle.dj_pool.specs.Reading.{utf8_at, number4_at, number8_at, named_at, paired_at, handle_at, untagged_at, constant_at_cursor, slot_at, slots_at, first_unlinked, linked_slots_at, pool_at}
use Rattle.dj_pool.proofs.Decides.{tests_decide}
use Rattle.dj_pool.proofs.AnswerFacts.{are_bytes}
use Rattle.dj_class.specs.declared.class.ClassError.{ClassError}
use Rattle.dj_class.specs.declared.class.ClassError.TheVariants as errors
use Rattle.dj_class.specs.declared.class.ClassView.{ClassView}
use Rattle.dj_class.specs.trusted.ClassFile.{MemberInfo, ClassFile, IsClassFile}
use Rattle.dj_class.specs.Faults.{IsFault}
use Rattle.dj_class.specs.Views.{class_of, ReadsClass}
use Rattle.dj_class.specs.Members.{member_of}
use Rattle.dj_class.specs.Reading.{index_at, attribute_at, member_at, magic_at, header_at, heading_at, class_file_of}
use Rattle.dj_class.specs.Memory.{is_memory}
use Rattle.dj_class.proofs.ClassLaws.{class_file_takes, one_class_file}
use Rattle.dj_class.proofs.AnswerLaws.{one_fault, faulty_is_malformed, reads_class}
use Rattle.dj_class.proofs.Facts.{class_a, bytes_a, changed, array_file, class_b, bytes_b}

-- ---- class files that are read

pub class_a-is : IsClassFile bytes_a class_a
unfolding class_a bytes_a utf8_at number4_at number8_at named_at paired_at handle_at untagged_at constant_at_cursor slot_at slots_at first_unlinked linked_slots_at pool_at unit_read long_read two_read three_read units_read modified_utf8_test unqualified_name_test method_name_test class_name_test field_descriptor_test method_descriptor_test array_descriptor_test reads_class_name dims_read name_read class_read of_read type_read params_read field_read return_read method_read many_at table_at index_at attribute_at member_at magic_at header_at heading_at class_file_of
class_a-is = class_file_takes tests_decide bytes_a class_a (are_bytes bytes_a refl) refl

pub class_b-is : IsClassFile bytes_b class_b
unfolding class_b bytes_b utf8_at number4_at number8_at named_at paired_at handle_at untagged_at constant_at_cursor slot_at slots_at first_unlinked linked_slots_at pool_at unit_read long_read two_read three_read units_read modified_utf8_test unqualified_name_test method_name_test class_name_test field_descriptor_test method_descriptor_test array_descriptor_test reads_class_name dims_read name_read class_read of_read type_read params_read field_read return_read method_read many_at table_at index_at attribute_at member_at magic_at header_at heading_at class_file_of
class_b-is = class_file_takes tests_decide bytes_b class_b (are_bytes bytes_b refl) refl

-- what a view shows, part by part
shown : ClassView
shown = record {
  minor = 0;
  major = 52;
  pool = class_b.pool;
  flags = 33;
  this_class = 2;
  super_class = 0;
  interfaces = 2 ∷ [];
  fields = record { flags = 9; name = 3; desc = 4; attributes = [] } ∷ [];
  methods = record { flags = 9; name = 1; desc = 5; attributes = [] } ∷ [];
  attributes = record { name = 1; body = 7 ∷ [] } ∷ [];
}

shown-is : class_of shown ≡ class_b
unfolding shown class_b
shown-is = refl

shown-answered : ReadsClass bytes_b (Ok shown)
shown-answered = subst (IsClassFile bytes_b) (sym shown-is) class_b-is

-- of a field or a method, and of an attribute
member-shown : member_of (record { flags = 1; name = 2; desc = 3; attributes = record { name = 4; body = 5 ∷ [] } ∷ [] }) ≡ record { flags = 1; name = 2; desc = 3; attributes = record { name = 4; body = 5 ∷ [] } ∷ [] }
member-shown = refl

-- the views that show the class file, and those alone
class_a-answered : (view : ClassView) → class_of view ≡ class_a → ReadsClass bytes_a (Ok view)
class_a-answered view shows = subst (IsClassFile bytes_a) (sym shows) class_a-is

class_a-alone : (view : ClassView) → ReadsClass bytes_a (Ok view) → class_of view ≡ class_a
class_a-alone view h = one_class_file tests_decide bytes_a (class_of view) class_a h class_a-is

class_b-answered : (view : ClassView) → class_of view ≡ class_b → ReadsClass bytes_b (Ok view)
class_b-answered view shows = subst (IsClassFile bytes_b) (sym shows) class_b-is

class_b-alone : (view : ClassView) → ReadsClass bytes_b (Ok view) → class_of view ≡ class_b
class_b-alone view h = one_class_file tests_decide bytes_b (class_of view) class_b h class_b-is

-- not one whose versions have changed places, nor the class and its superclass, nor the fields and the methods
versions_not : (view : ClassView) → view.minor ≡ 52 → view.major ≡ 0 → ReadsClass bytes_a (Ok view) → ⊥
unfolding class_a
versions_not view minor major h = let same : view.minor ≡ 0 = ap (λ (c : ClassFile). c.minor) (class_a-alone view h) in omega (arith, minor, same)

classes_not : (view : ClassView) → view.this_class ≡ 4 → view.super_class ≡ 2 → ReadsClass bytes_a (Ok view) → ⊥
unfolding class_a
classes_not view this super h = let same : view.this_class ≡ 2 = ap (λ (c : ClassFile). c.this_class) (class_a-alone view h) in omega (arith, this, same)

name_of : List MemberInfo → ℕ
name_of [] = 0
name_of (m ∷ ms) = m.name

members_not : (view : ClassView) → view.fields ≡ class_b.methods → view.methods ≡ class_b.fields → ReadsClass bytes_b (Ok view) → ⊥
unfolding class_b name_of
members_not view fields methods h =
    let same : view.fields ≡ class_b.fields = ap (λ (c : ClassFile). c.fields) (class_b-alone view h) in
    let first : 1 ≡ 3 = ap name_of (sym fields ∙ same) in
    omega (arith, first)

-- no other class file's bytes
others_not : (view : ClassView) → class_of view ≡ class_b → ReadsClass bytes_a (Ok view) → ⊥
unfolding class_a class_b
others_not view shows h =
    let same : class_b ≡ class_a = sym shows ∙ class_a-alone view h in
    let super : 0 ≡ 4 = ap (λ (c : ClassFile). c.super_class) same in
    omega (arith, super)

-- nothing is reported to be wrong with it but that memory ran out
no_fault : (e : ClassError) → IsFault bytes_a e → ⊥
no_fault e fault = faulty_is_malformed tests_decide bytes_a e fault class_a class_a-is

class_a-refused : (e : ClassError) → ReadsClass bytes_a (Err e) → is_memory e ≡ true
class_a-refused errors.Memory h = refl
class_a-refused (errors.Pool pool_errors.Memory) h = refl
class_a-refused (errors.Pool (pool_errors.Cut place)) h = absurd (no_fault (errors.Pool (pool_errors.Cut place)) h)
class_a-refused (errors.Pool (pool_errors.Tag place)) h = absurd (no_fault (errors.Pool (pool_errors.Tag place)) h)
class_a-refused (errors.Pool (pool_errors.Link index)) h = absurd (no_fault (errors.Pool (pool_errors.Link index)) h)
class_a-refused (errors.Pool (pool_errors.Text index)) h = absurd (no_fault (errors.Pool (pool_errors.Text index)) h)
class_a-refused errors.Magic h = absurd (no_fault errors.Magic h)
class_a-refused (errors.Cut place) h = absurd (no_fault (errors.Cut place) h)
class_a-refused (errors.Index place) h = absurd (no_fault (errors.Index place) h)
class_a-refused (errors.Trailing place) h = absurd (no_fault (errors.Trailing place) h)

class_a-magic_not : ReadsClass bytes_a (Err errors.Magic) → ⊥
class_a-magic_not h = no_fault errors.Magic h

-- ---- faults

-- the place or the index that an error has
place_of : ClassError → ℕ
place_of (errors.Cut place) = place
place_of (errors.Index place) = place
place_of (errors.Trailing place) = place
place_of (errors.Pool (pool_errors.Cut place)) = place
place_of (errors.Pool (pool_errors.Tag place)) = place
place_of (errors.Pool (pool_errors.Link index)) = index
place_of (errors.Pool (pool_errors.Text index)) = index
place_of _ = 0

-- a class that is an array's: where its index stands, and no other kind of error
pub denied-reported : ReadsClass array_file (Err (errors.Index 20))
unfolding array_file utf8_at number4_at number8_at named_at paired_at handle_at untagged_at constant_at_cursor slot_at slots_at first_unlinked linked_slots_at pool_at unit_read long_read two_read three_read units_read modified_utf8_test unqualified_name_test method_name_test class_name_test field_descriptor_test method_descriptor_test array_descriptor_test reads_class_name dims_read name_read class_read of_read type_read params_read field_read return_read method_read many_at table_at index_at attribute_at member_at magic_at header_at heading_at class_file_of
denied-reported = reads_class tests_decide array_file (Err (errors.Index 20)) (are_bytes array_file refl) refl

denied-place_not : ReadsClass array_file (Err (errors.Index 18)) → ⊥
unfolding place_of
denied-place_not h = let same = one_fault tests_decide array_file _ _ h denied-reported in omega (arith, ap place_of same)

denied-cut_not : ReadsClass array_file (Err (errors.Cut 20)) → ⊥
denied-cut_not h = let same = one_fault tests_decide array_file _ _ h denied-reported in absurd cc

denied-link_not : ReadsClass array_file (Err (errors.Pool (pool_errors.Link 2))) → ⊥
denied-link_not h = let same = one_fault tests_decide array_file _ _ h denied-reported in absurd cc

denied-trailing_not : ReadsClass array_file (Err (errors.Trailing 20)) → ⊥
denied-trailing_not h = let same = one_fault tests_decide array_file _ _ h denied-reported in absurd cc

denied-view_not : (view : ClassView) → ReadsClass array_file (Ok view) → ⊥
denied-view_not view h = faulty_is_malformed tests_decide array_file _ denied-reported (class_of view) h

-- an item that is not there whole: where it begins, not where the bytes end
cut-reported : ReadsClass (take 97 bytes_a) (Err (errors.Cut 90))
unfolding bytes_a utf8_at number4_at number8_at named_at paired_at handle_at untagged_at constant_at_cursor slot_at slots_at first_unlinked linked_slots_at pool_at unit_read long_read two_read three_read units_read modified_utf8_test unqualified_name_test method_name_test class_name_test field_descriptor_test method_descriptor_test array_descriptor_test reads_class_name dims_read name_read class_read of_read type_read params_read field_read return_read method_read many_at table_at index_at attribute_at member_at magic_at header_at heading_at class_file_of
cut-reported = reads_class tests_decide (take 97 bytes_a) (Err (errors.Cut 90)) (are_bytes (take 97 bytes_a) refl) refl

cut-place_not : ReadsClass (take 97 bytes_a) (Err (errors.Cut 97)) → ⊥
unfolding place_of
cut-place_not h = let same = one_fault tests_decide (take 97 bytes_a) _ _ h cut-reported in omega (arith, ap place_of same)

cut-denied_not : ReadsClass (take 97 bytes_a) (Err (errors.Index 90)) → ⊥
cut-denied_not h = let same = one_fault tests_decide (take 97 bytes_a) _ _ h cut-reported in absurd cc

cut-trailing_not : ReadsClass (take 97 bytes_a) (Err (errors.Trailing 97)) → ⊥
cut-trailing_not h = let same = one_fault tests_decide (take 97 bytes_a) _ _ h cut-reported in absurd cc

cut-view_not : (view : ClassView) → ReadsClass (take 97 bytes_a) (Ok view) → ⊥
cut-view_not view h = faulty_is_malformed tests_decide (take 97 bytes_a) _ cut-reported (class_of view) h

-- a byte after the last item
trailing-reported : ReadsClass (bytes_a ++ 0 ∷ []) (Err (errors.Trailing 106))
unfolding bytes_a utf8_at number4_at number8_at named_at paired_at handle_at untagged_at constant_at_cursor slot_at slots_at first_unlinked linked_slots_at pool_at unit_read long_read two_read three_read units_read modified_utf8_test unqualified_name_test method_name_test class_name_test field_descriptor_test method_descriptor_test array_descriptor_test reads_class_name dims_read name_read class_read of_read type_read params_read field_read return_read method_read many_at table_at index_at attribute_at member_at magic_at header_at heading_at class_file_of
trailing-reported = reads_class tests_decide (bytes_a ++ 0 ∷ []) (Err (errors.Trailing 106)) (are_bytes (bytes_a ++ 0 ∷ []) refl) refl

trailing-place_not : ReadsClass (bytes_a ++ 0 ∷ []) (Err (errors.Trailing 105)) → ⊥
unfolding place_of
trailing-place_not h = let same = one_fault tests_decide (bytes_a ++ 0 ∷ []) _ _ h trailing-reported in omega (arith, ap place_of same)

trailing-cut_not : ReadsClass (bytes_a ++ 0 ∷ []) (Err (errors.Cut 106)) → ⊥
trailing-cut_not h = let same = one_fault tests_decide (bytes_a ++ 0 ∷ []) _ _ h trailing-reported in absurd cc

trailing-view_not : (view : ClassView) → ReadsClass (bytes_a ++ 0 ∷ []) (Ok view) → ⊥
trailing-view_not view h = faulty_is_malformed tests_decide (bytes_a ++ 0 ∷ []) _ trailing-reported (class_of view) h

-- another magic number, though all else is a class file's
magic-reported : ReadsClass (changed 3 191) (Err errors.Magic)
unfolding bytes_a changed utf8_at number4_at number8_at named_at paired_at handle_at untagged_at constant_at_cursor slot_at slots_at first_unlinked linked_slots_at pool_at unit_read long_read two_read three_read units_read modified_utf8_test unqualified_name_test method_name_test class_name_test field_descriptor_test method_descriptor_test array_descriptor_test reads_class_name dims_read name_read class_read of_read type_read params_read field_read return_read method_read many_at table_at index_at attribute_at member_at magic_at header_at heading_at class_file_of
magic-reported = reads_class tests_decide (changed 3 191) (Err errors.Magic) (are_bytes (changed 3 191) refl) refl

magic-cut_not : ReadsClass (changed 3 191) (Err (errors.Cut 0)) → ⊥
magic-cut_not h = let same = one_fault tests_decide (changed 3 191) _ _ h magic-reported in absurd cc

magic-denied_not : ReadsClass (changed 3 191) (Err (errors.Index 0)) → ⊥
magic-denied_not h = let same = one_fault tests_decide (changed 3 191) _ _ h magic-reported in absurd cc

magic-view_not : (view : ClassView) → ReadsClass (changed 3 191) (Ok view) → ⊥
magic-view_not view h = faulty_is_malformed tests_decide (changed 3 191) _ magic-reported (class_of view) h

-- a class in the pool that names a class
link-reported : ReadsClass (changed 16 4) (Err (errors.Pool (pool_errors.Link 2)))
unfolding bytes_a changed utf8_at number4_at number8_at named_at paired_at handle_at untagged_at constant_at_cursor slot_at slots_at first_unlinked linked_slots_at pool_at unit_read long_read two_read three_read units_read modified_utf8_test unqualified_name_test method_name_test class_name_test field_descriptor_test method_descriptor_test array_descriptor_test reads_class_name dims_read name_read class_read of_read type_read params_read field_read return_read method_read many_at table_at index_at attribute_at member_at magic_at header_at heading_at class_file_of
link-reported = reads_class tests_decide (changed 16 4) (Err (errors.Pool (pool_errors.Link 2))) (are_bytes (changed 16 4) refl) refl

link-index_not : ReadsClass (changed 16 4) (Err (errors.Pool (pool_errors.Link 1))) → ⊥
unfolding place_of
link-index_not h = let same = one_fault tests_decide (changed 16 4) _ _ h link-reported in omega (arith, ap place_of same)

link-text_not : ReadsClass (changed 16 4) (Err (errors.Pool (pool_errors.Text 2))) → ⊥
link-text_not h = let same = one_fault tests_decide (changed 16 4) _ _ h link-reported in absurd cc

link-denied_not : ReadsClass (changed 16 4) (Err (errors.Index 2)) → ⊥
link-denied_not h = let same = one_fault tests_decide (changed 16 4) _ _ h link-reported in absurd cc

link-view_not : (view : ClassView) → ReadsClass (changed 16 4) (Ok view) → ⊥
link-view_not view h = faulty_is_malformed tests_decide (changed 16 4) _ link-reported (class_of view) h

-- a tag that is none
tag-reported : ReadsClass (changed 10 2) (Err (errors.Pool (pool_errors.Tag 10)))
unfolding bytes_a changed utf8_at number4_at number8_at named_at paired_at handle_at untagged_at constant_at_cursor slot_at slots_at first_unlinked linked_slots_at pool_at unit_read long_read two_read three_read units_read modified_utf8_test unqualified_name_test method_name_test class_name_test field_descriptor_test method_descriptor_test array_descriptor_test reads_class_name dims_read name_read class_read of_read type_read params_read field_read return_read method_read many_at table_at index_at attribute_at member_at magic_at header_at heading_at class_file_of
tag-reported = reads_class tests_decide (changed 10 2) (Err (errors.Pool (pool_errors.Tag 10))) (are_bytes (changed 10 2) refl) refl

tag-place_not : ReadsClass (changed 10 2) (Err (errors.Pool (pool_errors.Tag 8))) → ⊥
unfolding place_of
tag-place_not h = let same = one_fault tests_decide (changed 10 2) _ _ h tag-reported in omega (arith, ap place_of same)

tag-cut_not : ReadsClass (changed 10 2) (Err (errors.Pool (pool_errors.Cut 10))) → ⊥
tag-cut_not h = let same = one_fault tests_decide (changed 10 2) _ _ h tag-reported in absurd cc

tag-outer_cut_not : ReadsClass (changed 10 2) (Err (errors.Cut 10)) → ⊥
tag-outer_cut_not h = let same = one_fault tests_decide (changed 10 2) _ _ h tag-reported in absurd cc

tag-view_not : (view : ClassView) → ReadsClass (changed 10 2) (Ok view) → ⊥
tag-view_not view h = faulty_is_malformed tests_decide (changed 10 2) _ tag-reported (class_of view) h
