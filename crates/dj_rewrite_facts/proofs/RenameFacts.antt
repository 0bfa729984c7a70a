-- The constants of rewritten classes: the accounter's, whether they are there, and the order of texts.
use Rattle.std.proofs.Common.{◌≡◌, ℕ, ◌+◌, ◌≤◌, List, [], ◌∷◌, ◌++◌, map, length, length-append, Some, None, refl, sym, ap, subst, arith, codes}
use Rattle.std.specs.Prelude.{Ok, Err}
use Rattle.std.specs.List.{AllByRecursion}
use Rattle.dj_names.specs.trusted.Types.{Name}
use Rattle.dj_names.specs.trusted.NameReading.{reads_class_name}
use Rattle.dj_names.specs.trusted.DescReading.{desc_read, method_read, params_read, type_read, dims_read, of_read, class_read, name_read, return_read, field_read}
use Rattle.dj_pool.specs.trusted.Pool.{Constant, Utf8, Class, NameAndType, MethodType, Method, IsPool}
use Rattle.dj_declarations.specs.trusted.Files.{type_in, desc_in}
use Rattle.dj_rename.specs.declared.error.RenameError.TheVariants as errors
use Rattle.dj_rename.specs.Names.{renamed_class, renamed_desc}
use Rattle.dj_rename.specs.Pools.{Need, needs, first_places, appended_texts, renamed_constant, renamed_pool, accounter_constants, first_index, rewritten_pool, IsLongText}
use Rattle.dj_rename.specs.Refusals.{refusal_at, AppendsAccounter, RefusesAccounter}
use Rattle.dj_rename.proofs.PoolLaws.{length_map}

-- ---- the accounter's constants

-- all 26 of them, where the first has the index 10
constants : accounter_constants 10
    ≡ Utf8 (codes "djvm/Accounter") ∷ Class 10
    ∷ Utf8 (codes "recordJump") ∷ Utf8 (codes "()V") ∷ NameAndType 12 13 ∷ Method 11 14
    ∷ Utf8 (codes "recordInvocation") ∷ Utf8 (codes "()V") ∷ NameAndType 16 17 ∷ Method 11 18
    ∷ Utf8 (codes "recordThrow") ∷ Utf8 (codes "()V") ∷ NameAndType 20 21 ∷ Method 11 22
    ∷ Utf8 (codes "recordAllocation") ∷ Utf8 (codes "(I)V") ∷ NameAndType 24 25 ∷ Method 11 26
    ∷ Utf8 (codes "recordArray") ∷ Utf8 (codes "(II)V") ∷ NameAndType 28 29 ∷ Method 11 30
    ∷ Utf8 (codes "checkCatch") ∷ Utf8 (codes "(Lsandbox/java/lang/Object;)V") ∷ NameAndType 32 33 ∷ Method 11 34 ∷ []
unfolding accounter_constants
constants = refl

-- they follow the texts, which follow the constants
firsts : first_index [] [] ∷ first_index (Utf8 [] ∷ []) (codes "a" ∷ codes "b" ∷ []) ∷ [] ≡ 1 ∷ 4 ∷ []
firsts = refl

-- ---- what appending them answers

count : (first : ℕ) → length (accounter_constants first) ≡ 26
unfolding accounter_constants
count first = refl

with_them : (pool : List Constant) (first : ℕ) → length (pool ++ accounter_constants first) ≡ length pool + 26
with_them pool first = omega (arith, length-append pool (accounter_constants first), count first)

-- where the last of them would get the index 65,535 the pool is full, and stays as it is; the Ok says where they begin
full : (pool : List Constant) → length pool ≡ 65509 → AppendsAccounter pool pool (Err errors.Full)
full pool many = (refl, omega (arith, many, with_them pool (length pool + 1)))

not_full : (pool now : List Constant) → length pool ≡ 65508 → AppendsAccounter pool now (Err errors.Full) → ⊥
not_full pool now many answer = absurd (omega (arith, many, answer.1, with_them pool (length pool + 1)))

full_not_grown : (k : Constant) → AppendsAccounter [] (k ∷ []) (Err errors.Full) → ⊥
full_not_grown k answer = absurd cc

never_long : (pool now : List Constant) (index : ℕ) → AppendsAccounter pool now (Err (errors.Long index)) → ⊥
never_long pool now index answer = answer

appended : IsPool (accounter_constants 1) → AppendsAccounter [] (accounter_constants 1) (Ok 1)
appended valid = (refl, refl, valid)

begins_after : (now : List Constant) → AppendsAccounter [] now (Ok 0) → ⊥
begins_after now answer = let e : 0 ≡ 1 = answer.0 in absurd (omega (arith, e))

not_appended : (pool : List Constant) (first : ℕ) → AppendsAccounter pool pool (Ok first) → ⊥
not_appended pool first answer = let e = ap length answer.1 in absurd (omega (arith, e, with_them pool first))

-- ---- why a rewritten pool lacks them

rewritten_count : (pool : List Constant) (descs : List ℕ) → length (rewritten_pool pool descs) ≡ length pool + length (appended_texts pool descs) + 26
unfolding rewritten_pool renamed_pool
rewritten_count pool descs = omega (
  arith,
  with_them (renamed_pool pool (appended_texts pool descs)) (first_index pool (appended_texts pool descs)),
  length-append (map (renamed_constant pool (appended_texts pool descs)) pool) (map Utf8 (appended_texts pool descs)),
  length_map (renamed_constant pool (appended_texts pool descs)) pool,
  length_map Utf8 (appended_texts pool descs),
)

refused : (pool : List Constant) (descs : List ℕ) → length pool + length (appended_texts pool descs) ≡ 65509 → RefusesAccounter pool descs errors.Full
refused pool descs many = omega (arith, many, rewritten_count pool descs)

not_refused : (pool : List Constant) (descs : List ℕ) → length pool + length (appended_texts pool descs) ≡ 65508 → RefusesAccounter pool descs errors.Full → ⊥
not_refused pool descs many full = absurd (omega (arith, many, full, rewritten_count pool descs))

not_long : (pool : List Constant) (descs : List ℕ) (index : ℕ) → RefusesAccounter pool descs (errors.Long index) → ⊥
not_long pool descs index long = long

-- ---- texts that can't be appended

abbrev need_of_text : Name → Need
need_of_text text = record { of = 2; index = 1; text = text }

-- a text of 65,536 bytes is too long; where it has no index either, the pool is full
long_texts : (text : Name) → length text ≡ 65536 → refusal_at 65534 (need_of_text text) ∷ refusal_at 65535 (need_of_text text) ∷ [] ≡ Some (errors.Long 2) ∷ Some errors.Full ∷ []
long_texts text e = rw e refl

greatest_text : (text : Name) → length text ≡ 65535 → refusal_at 65534 (need_of_text text) ≡ None
greatest_text text e = rw e refl

too_long : (pool : List Constant) (descs : List ℕ) (text : Name) → appended_texts pool descs ≡ text ∷ [] → length text ≡ 65536 → IsLongText pool descs
too_long pool descs text are long short =
    let one : AllByRecursion (λ (t : Name). length t ≤ 65535) (text ∷ []) = subst (AllByRecursion (λ (t : Name). length t ≤ 65535)) are short in
    absurd (omega (arith, long, one.0))

not_too_long : (pool : List Constant) (descs : List ℕ) (text : Name) → appended_texts pool descs ≡ text ∷ [] → length text ≡ 65535 → IsLongText pool descs → ⊥
not_too_long pool descs text are short long = long (subst (AllByRecursion (λ (t : Name). length t ≤ 65535)) (sym are) (omega (arith, short), tt))

-- ---- the order of texts

-- by the constants' indexes, whatever they name, and then the members' descriptors
abbrev mixed : List Constant
mixed = NameAndType 5 4 ∷ MethodType 6 ∷ Class 5 ∷ Utf8 (codes "Lb;") ∷ Utf8 (codes "a") ∷ Utf8 (codes "()Lc;") ∷ Utf8 (codes "Ld;") ∷ []

mixed_texts : appended_texts mixed (7 ∷ []) ≡ codes "Lsandbox/b;" ∷ codes "()Lsandbox/c;" ∷ codes "sandbox/a" ∷ codes "Lsandbox/d;" ∷ []
unfolding appended_texts first_places needs renamed_class renamed_desc type_in desc_in desc_read method_read params_read type_read dims_read of_read class_read name_read reads_class_name return_read field_read
mixed_texts = refl

mixed_pool : renamed_pool mixed (appended_texts mixed (7 ∷ []))
    ≡ NameAndType 5 8 ∷ MethodType 9 ∷ Class 10 ∷ Utf8 (codes "Lb;") ∷ Utf8 (codes "a") ∷ Utf8 (codes "()Lc;") ∷ Utf8 (codes "Ld;")
    ∷ Utf8 (codes "Lsandbox/b;") ∷ Utf8 (codes "()Lsandbox/c;") ∷ Utf8 (codes "sandbox/a") ∷ Utf8 (codes "Lsandbox/d;") ∷ []
unfolding renamed_pool appended_texts first_places needs renamed_class renamed_desc type_in desc_in desc_read method_read params_read type_read dims_read of_read class_read name_read reads_class_name return_read field_read
mixed_pool = refl

classes_first : appended_texts mixed (7 ∷ []) ≡ codes "sandbox/a" ∷ codes "Lsandbox/b;" ∷ codes "()Lsandbox/c;" ∷ codes "Lsandbox/d;" ∷ [] → ⊥
unfolding appended_texts first_places needs renamed_class renamed_desc type_in desc_in desc_read method_read params_read type_read dims_read of_read class_read name_read reads_class_name return_read field_read
classes_first e = absurd cc
