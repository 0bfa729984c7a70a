-- Appending and another text at plain values.
use Rattle.std.proofs.Common.{◌≡◌, ℕ, ◌+◌, ◌<◌, ◌≤◌, ◌^◌, true, false, List, [], ◌∷◌, ◌++◌, length, replicate, Some, Ok, Err, pos, refl, sym, ap, ◌∙◌, arith}
use Rattle.std.specs.Prelude.{codes, slice_set}
use Rattle.std.proofs.lemmas.List.{length-replicate}
use Rattle.dj_names.specs.trusted.Descriptors.{IsFieldDescriptor, IsMethodDescriptor}
use Rattle.dj_names.specs.trusted.NameReading.{reads_class_name}
use Rattle.dj_names.specs.trusted.DescReading.{dims_read, name_read, class_read, of_read, type_read, params_read, field_read, return_read, method_read}
use Rattle.dj_names.specs.Tests.{unqualified_name_test, method_name_test, class_name_test, field_descriptor_test, method_descriptor_test, array_descriptor_test}
use Rattle.dj_pool.specs.declared.append.AppendError.TheVariants as append_errors
use Rattle.dj_pool.specs.trusted.Pool.{Constant, Utf8, Integer, Long, Double, Class, Field, NameAndType, MethodType, Hole, indexed, text_at, desc_at, NamesText, NamesDesc, IsLinked}
use Rattle.dj_pool.specs.Tests.{passes, is_linked}
use Rattle.dj_pool.specs.Laws.{KeepsKind}
use Rattle.dj_pool.specs.Answers.{Appends, last_index, with_text, MayHaveText, Redirects}
use Rattle.dj_pool.proofs.Decides.{tests_decide, link_decides, passes_takes, passes_again}

-- ---- appending

-- a count of two bytes is one more than the last index, and no more
last_index-fits : (last_index + 1 < 2 ^ 16) × (2 ^ 16 ≤ last_index + 2)
last_index-fits = (omega arith, omega arith)

-- this many ints
ints : ℕ → List Constant
ints n = replicate n (Integer (pos 0))

ints-length : (n : ℕ) → length (ints n) ≡ n
unfolding ints
ints-length n = length-replicate n (Integer (pos 0))

one : length (indexed (Integer (pos 7) ∷ [])) ≡ 1
unfolding indexed
one = refl

two : length (indexed (Long (pos 7) ∷ [])) ≡ 2
unfolding indexed
two = refl

-- an int may have the last index
int-last : Appends (ints 65533) (Integer (pos 7)) (ints 65533 ++ Integer (pos 7) ∷ []) (Ok 65534)
unfolding indexed
int-last = (refl, omega (arith, ints-length 65533), omega (arith, ints-length 65533))

int-last_not_full : (now : List Constant) → Appends (ints 65533) (Integer (pos 7)) now (Err append_errors.Full) → ⊥
int-last_not_full now h = omega (arith, h.1, one, ints-length 65533)

-- and none after it
int-past : Appends (ints 65534) (Integer (pos 7)) (ints 65534) (Err append_errors.Full)
int-past = (refl, omega (arith, one, ints-length 65534))

int-past_not_ok : (now : List Constant) (index : ℕ) → Appends (ints 65534) (Integer (pos 7)) now (Ok index) → ⊥
int-past_not_ok now index h = omega (arith, h.2, one, ints-length 65534)

-- a long may have the last two
long-last : Appends (ints 65532) (Long (pos 7)) (ints 65532 ++ Long (pos 7) ∷ Hole ∷ []) (Ok 65533)
unfolding indexed
long-last = (refl, omega (arith, ints-length 65532), omega (arith, ints-length 65532))

long-last_not_full : (now : List Constant) → Appends (ints 65532) (Long (pos 7)) now (Err append_errors.Full) → ⊥
long-last_not_full now h = omega (arith, h.1, two, ints-length 65532)

-- and not the last alone
long-past : Appends (ints 65533) (Long (pos 7)) (ints 65533) (Err append_errors.Full)
long-past = (refl, omega (arith, two, ints-length 65533))

long-past_not_ok : (now : List Constant) (index : ℕ) → Appends (ints 65533) (Long (pos 7)) now (Ok index) → ⊥
long-past_not_ok now index h = omega (arith, h.2, two, ints-length 65533)

-- where a constant was appended, it stands at the next index, and nothing else is
appended-is : (now : List Constant) (index : ℕ) → Appends (Utf8 (codes "A") ∷ []) (Double 7) now (Ok index) → (now ≡ Utf8 (codes "A") ∷ Double 7 ∷ Hole ∷ []) × (index ≡ 2)
unfolding indexed
appended-is now index h = (h.0, h.1)

-- where none was, the pool is as it was
full-keeps : (now : List Constant) → Appends (ints 65534) (Integer (pos 7)) now (Err append_errors.Full) → now ≡ ints 65534
full-keeps now h = h.0

memory-keeps : (now : List Constant) → Appends (ints 1) (Integer (pos 7)) now (Err append_errors.Memory) → now ≡ ints 1
memory-keeps now h = h

-- ---- another text

-- 1 a name, 2 a field's descriptor, 3 a method's, 4 a name with a descriptor, 5 a class, 6 a method type, 7 a name that no method has, 8 the same with a descriptor, 9 a field
texts : List Constant
texts = Utf8 (codes "A") ∷ Utf8 (codes "I") ∷ Utf8 (codes "()V") ∷ NameAndType 1 2 ∷ Class 1 ∷ MethodType 3 ∷ Utf8 (codes "<x>") ∷ NameAndType 7 2 ∷ Field 5 4 ∷ []

is_some_of : {A : Type 0} {x y : A} → Some x ≡ Some y → x ≡ y
is_some_of h = cc

-- where the descriptor is another, the name stays, and so does all else
names-redirected : (now : List Constant) → Redirects texts 4 3 now → now ≡ Utf8 (codes "A") ∷ Utf8 (codes "I") ∷ Utf8 (codes "()V") ∷ NameAndType 1 3 ∷ Class 1 ∷ MethodType 3 ∷ Utf8 (codes "<x>") ∷ NameAndType 7 2 ∷ Field 5 4 ∷ []
unfolding texts
names-redirected now r = let same : NameAndType 1 2 ≡ r.constant = is_some_of (r.at) in r.changed ∙ ap (λ (k : Constant). slice_set texts 3 (with_text 3 k)) (sym same)

class-redirected : (now : List Constant) → Redirects texts 5 7 now → now ≡ Utf8 (codes "A") ∷ Utf8 (codes "I") ∷ Utf8 (codes "()V") ∷ NameAndType 1 2 ∷ Class 7 ∷ MethodType 3 ∷ Utf8 (codes "<x>") ∷ NameAndType 7 2 ∷ Field 5 4 ∷ []
unfolding texts
class-redirected now r = let same : Class 1 ≡ r.constant = is_some_of (r.at) in r.changed ∙ ap (λ (k : Constant). slice_set texts 4 (with_text 7 k)) (sym same)

method_type-redirected : (now : List Constant) → Redirects texts 6 2 now → now ≡ Utf8 (codes "A") ∷ Utf8 (codes "I") ∷ Utf8 (codes "()V") ∷ NameAndType 1 2 ∷ Class 1 ∷ MethodType 2 ∷ Utf8 (codes "<x>") ∷ NameAndType 7 2 ∷ Field 5 4 ∷ []
unfolding texts
method_type-redirected now r = let same : MethodType 3 ≡ r.constant = is_some_of (r.at) in r.changed ∙ ap (λ (k : Constant). slice_set texts 5 (with_text 2 k)) (sym same)

-- and such a pool it may be
names-redirects : Redirects texts 4 3 (Utf8 (codes "A") ∷ Utf8 (codes "I") ∷ Utf8 (codes "()V") ∷ NameAndType 1 3 ∷ Class 1 ∷ MethodType 3 ∷ Utf8 (codes "<x>") ∷ NameAndType 7 2 ∷ Field 5 4 ∷ [])
unfolding texts
names-redirects = record { constant = NameAndType 1 2; at = refl; changed = refl }

-- not one with another name, nor with another class, nor a shorter one
names-redirects_not : Redirects texts 4 3 (Utf8 (codes "A") ∷ Utf8 (codes "I") ∷ Utf8 (codes "()V") ∷ NameAndType 3 2 ∷ Class 1 ∷ MethodType 3 ∷ Utf8 (codes "<x>") ∷ NameAndType 7 2 ∷ Field 5 4 ∷ []) → ⊥
names-redirects_not r = let same = names-redirected _ r in absurd cc

class-redirects_not : Redirects texts 5 7 (Utf8 (codes "A") ∷ Utf8 (codes "I") ∷ Utf8 (codes "()V") ∷ NameAndType 1 2 ∷ Class 1 ∷ MethodType 3 ∷ Utf8 (codes "<x>") ∷ NameAndType 7 7 ∷ Field 5 4 ∷ []) → ⊥
class-redirects_not r = let same = class-redirected _ r in absurd cc

short-redirects_not : Redirects texts 5 7 (Utf8 (codes "A") ∷ Utf8 (codes "I") ∷ Utf8 (codes "()V") ∷ NameAndType 1 2 ∷ Class 7 ∷ []) → ⊥
short-redirects_not r = let same = class-redirected _ r in absurd cc

-- past the last index nothing has another text
past-redirects_not : (now : List Constant) → Redirects texts 10 3 now → ⊥
unfolding texts
past-redirects_not now r = let at = r.at in absurd cc

-- ---- which text it may be

linked : (k : Constant) → is_linked texts k ≡ true → IsLinked texts k
linked k h = (link_decides tests_decide texts k).takes h

unlinked : (k : Constant) → is_linked texts k ≡ false → IsLinked texts k → ⊥
unlinked k h l = let is = (link_decides tests_decide texts k).again l in absurd cc

-- a descriptor of either kind, of a field alone where no method has the name, a class's text, and a method's descriptor
may_be : MayHaveText texts 4 2 × MayHaveText texts 4 3 × MayHaveText texts 8 2 × MayHaveText texts 5 7 × MayHaveText texts 6 3
unfolding texts unqualified_name_test method_name_test class_name_test field_descriptor_test method_descriptor_test array_descriptor_test reads_class_name dims_read name_read class_read of_read type_read params_read field_read return_read method_read
may_be = ((tt, linked (NameAndType 1 2) refl), (tt, linked (NameAndType 1 3) refl), (tt, linked (NameAndType 7 2) refl), (tt, linked (Class 7) refl), (tt, linked (MethodType 3) refl))

-- not a text that is no descriptor, or one of the other kind, and not what is no text
names-may_not : MayHaveText texts 4 1 → ⊥
unfolding texts unqualified_name_test method_name_test class_name_test field_descriptor_test method_descriptor_test array_descriptor_test reads_class_name dims_read name_read class_read of_read type_read params_read field_read return_read method_read
names-may_not h = unlinked (NameAndType 1 1) refl h.1

field_names-may_not : MayHaveText texts 8 3 → ⊥
unfolding texts unqualified_name_test method_name_test class_name_test field_descriptor_test method_descriptor_test array_descriptor_test reads_class_name dims_read name_read class_read of_read type_read params_read field_read return_read method_read
field_names-may_not h = unlinked (NameAndType 7 3) refl h.1

class-may_not : MayHaveText texts 5 4 → ⊥
unfolding texts unqualified_name_test method_name_test class_name_test field_descriptor_test method_descriptor_test array_descriptor_test reads_class_name dims_read name_read class_read of_read type_read params_read field_read return_read method_read
class-may_not h = unlinked (Class 4) refl h.1

method_type-may_not : MayHaveText texts 6 2 → ⊥
unfolding texts unqualified_name_test method_name_test class_name_test field_descriptor_test method_descriptor_test array_descriptor_test reads_class_name dims_read name_read class_read of_read type_read params_read field_read return_read method_read
method_type-may_not h = unlinked (MethodType 2) refl h.1

-- a text, a field, and what isn't there have no text
others-may_not : (MayHaveText texts 1 3 → ⊥) × (MayHaveText texts 9 3 → ⊥) × (MayHaveText texts 0 3 → ⊥) × (MayHaveText texts 10 3 → ⊥)
unfolding texts
others-may_not = (λ h. h.0, λ h. h.0, λ h. h, λ h. h)

-- ---- the kind of a descriptor

has_field_desc : (i : ℕ) → passes field_descriptor_test (text_at texts i) ≡ true → NamesText IsFieldDescriptor texts i
has_field_desc i h = passes_takes field_descriptor_test IsFieldDescriptor tests_decide.field_descriptor (text_at texts i) h

no_field_desc : (i : ℕ) → passes field_descriptor_test (text_at texts i) ≡ false → NamesText IsFieldDescriptor texts i → ⊥
no_field_desc i h named = let is = passes_again field_descriptor_test IsFieldDescriptor tests_decide.field_descriptor (text_at texts i) named in absurd cc

no_method_desc : (i : ℕ) → passes method_descriptor_test (desc_at texts i) ≡ false → NamesDesc IsMethodDescriptor texts i → ⊥
no_method_desc i h named = let is = passes_again method_descriptor_test IsMethodDescriptor tests_decide.method_descriptor (desc_at texts i) named in absurd cc

-- of a field's name and descriptor, and of a class
kinds-kept : KeepsKind texts 4 2 × KeepsKind texts 5 7
unfolding texts unqualified_name_test method_name_test class_name_test field_descriptor_test method_descriptor_test array_descriptor_test reads_class_name dims_read name_read class_read of_read type_read params_read field_read return_read method_read
kinds-kept = (record { field = λ h. has_field_desc 2 refl; method = λ h. absurd (no_method_desc 4 refl h) }, record { field = λ h. absurd h; method = λ h. absurd h })

-- a method's descriptor is none of a field's kind
kinds-kept_not : KeepsKind texts 4 3 → ⊥
unfolding texts unqualified_name_test method_name_test class_name_test field_descriptor_test method_descriptor_test array_descriptor_test reads_class_name dims_read name_read class_read of_read type_read params_read field_read return_read method_read
kinds-kept_not kind = no_field_desc 3 refl (kind.field (linked (Field 5 4) refl).1)

-- and where it were one, the field would have a method's descriptor
field-unlinked : (is_linked texts (Field 5 4) ≡ true) × (is_linked (Utf8 (codes "A") ∷ Utf8 (codes "I") ∷ Utf8 (codes "()V") ∷ NameAndType 1 3 ∷ Class 1 ∷ MethodType 3 ∷ Utf8 (codes "<x>") ∷ NameAndType 7 2 ∷ Field 5 4 ∷ []) (Field 5 4) ≡ false)
unfolding texts unqualified_name_test method_name_test class_name_test field_descriptor_test method_descriptor_test array_descriptor_test reads_class_name dims_read name_read class_read of_read type_read params_read field_read return_read method_read
field-unlinked = (refl, refl)
