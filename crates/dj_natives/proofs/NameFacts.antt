-- Names of classes and descriptors of arrays, without what stands before the names of the library's classes.
use Rattle.std.proofs.Common.{◌≡◌, ℕ, zero, suc, ◌+◌, ◌-◌, ◌<◌, ◌≤◌, Bool, true, false, cond, List, [], ◌∷◌, ◌++◌, length, take, drop, replicate, Option, Some, None, nat_eq, if◌then◌else◌, refl, ap, sym, subst, ◌∙◌, arith}
use Rattle.std.specs.Prelude.{slice_range, nat_lt}
use Rattle.std.specs.Option.{option_map}
use Rattle.std.specs.List.{starts_with}
use Rattle.std.proofs.lemmas.Bool.{ne_eqb, eq-eqb, le-ltb}
use Rattle.std.proofs.lemmas.List.{length-append, length-replicate}
use Rattle.dj_names.specs.declared.descriptor.Base.TheVariants as bases
use Rattle.dj_names.specs.declared.descriptor.Of.{Of}
use Rattle.dj_names.specs.declared.descriptor.Of.TheVariants as ofs
use Rattle.dj_names.specs.declared.descriptor.Ty.{Ty}
use Rattle.dj_names.specs.trusted.Descriptors.{of_text, type_text}
use Rattle.dj_names.specs.trusted.Heaps.{Object, class_of}
use Rattle.dj_names.specs.trusted.Types.{of_map}
use Rattle.dj_heap.specs.Heaps.{LimitedHeap, object_in}
use Rattle.dj_model.specs.trusted.Types.{Prefix}
use Rattle.dj_model.specs.trusted.Natives.{class_name, plain_class, plain_name, shown_class}
use Rattle.dj_library_types.specs.Numbered.{type_at, ArePlain, begins_array}
use Rattle.dj_natives.specs.Names.{after_brackets, plain_elements, plain_text, shown_held, shown_at}

-- ---- brackets

pub shorter : (b : ℕ) (more : List ℕ) → b ≡ 91 → after_brackets more ≡ after_brackets (b ∷ more)
shorter b more e = ap (λ t. if t then after_brackets more else b ∷ more) (sym (eq-eqb b 91 e))

no_brackets : (name : List ℕ) → begins_array name ≡ false → after_brackets name ≡ name
no_brackets [] e = refl
no_brackets (b ∷ more) e = ap (λ t. if t then after_brackets more else b ∷ more) e

element_first : (of : Of) → after_brackets (of_text of) ≡ of_text of
element_first (ofs.Base bases.Boolean) = refl
element_first (ofs.Base bases.Byte) = refl
element_first (ofs.Base bases.Char) = refl
element_first (ofs.Base bases.Short) = refl
element_first (ofs.Base bases.Int) = refl
element_first (ofs.Base bases.Long) = refl
element_first (ofs.Base bases.Float) = refl
element_first (ofs.Base bases.Double) = refl
element_first (ofs.Class name) = refl

after_all : (n : ℕ) (of : Of) → after_brackets (replicate n 91 ++ of_text of) ≡ of_text of
after_all zero of = element_first of
after_all (suc n) of = after_all n of

prefix_of : (n : ℕ) (rest : List ℕ) → take n (replicate n 91 ++ rest) ≡ replicate n 91
prefix_of zero rest = refl
prefix_of (suc n) rest = ap (λ l. 91 ∷ l) (prefix_of n rest)

take_prefix : (first rest : List ℕ) → take (length first) (first ++ rest) ≡ first
take_prefix [] rest = refl
take_prefix (x ∷ first) rest = ap (λ l. x ∷ l) (take_prefix first rest)

-- ---- elements

class_element : (prefix : Prefix) (name : List ℕ) → plain_elements prefix (76 ∷ name ++ 59 ∷ []) ≡ 76 ∷ plain_name prefix name ++ 59 ∷ []
class_element prefix name =
    let text : List ℕ = 76 ∷ name ++ 59 ∷ [] in
    let size : length (name ++ 59 ∷ []) ≡ length name + 1 = length-append name (59 ∷ []) in
    let long : nat_lt (length text) 2 ≡ false = le-ltb (length text) 2 (omega (arith, size)) in
    let inner : slice_range text 1 (length text - 1) ≡ name =
    ap (λ k. take k (name ++ 59 ∷ [])) (omega (arith, size)) ∙ take_prefix name (59 ∷ []) in
    ap (λ t. if t then text else 76 ∷ plain_name prefix (slice_range text 1 (length text - 1)) ++ 59 ∷ []) long
    ∙ ap (λ l. 76 ∷ plain_name prefix l ++ 59 ∷ []) inner

element_plain : (prefix : Prefix) (of : Of) → plain_elements prefix (of_text of) ≡ of_text (of_map (plain_name prefix) of)
element_plain prefix (ofs.Base bases.Boolean) = refl
element_plain prefix (ofs.Base bases.Byte) = refl
element_plain prefix (ofs.Base bases.Char) = refl
element_plain prefix (ofs.Base bases.Short) = refl
element_plain prefix (ofs.Base bases.Int) = refl
element_plain prefix (ofs.Base bases.Long) = refl
element_plain prefix (ofs.Base bases.Float) = refl
element_plain prefix (ofs.Base bases.Double) = refl
element_plain prefix (ofs.Class name) = class_element prefix name

-- ---- names of types

array_name : (dims : ℕ) (of : Of) → 1 ≤ dims → class_name (record { dims = dims; of = of }) ≡ type_text (record { dims = dims; of = of })
array_name dims (ofs.Base base) some =
    ap (λ (b : Bool). cond b [] (type_text (record { dims = dims; of = ofs.Base base }))) (ne_eqb dims 0 (λ e. omega (arith, some, e)))
array_name dims (ofs.Class name) some =
    ap (λ (b : Bool). cond b name (type_text (record { dims = dims; of = ofs.Class name }))) (ne_eqb dims 0 (λ e. omega (arith, some, e)))

none_left : (b : Bool) (n : ℕ) → (if b then drop {A = ℕ} n [] else []) ≡ []
none_left true zero = refl
none_left true (suc n) = refl
none_left false n = refl

plain_array : (prefix : Prefix) (n : ℕ) (of : Of) → 1 ≤ n → plain_text prefix (replicate n 91 ++ of_text of) ≡ replicate n 91 ++ of_text (of_map (plain_name prefix) of)
plain_array prefix n of some =
    let text : List ℕ = replicate n 91 ++ of_text of in
    let size : length text ≡ n + length (of_text of) = length-append (replicate n 91) (of_text of) ∙ ap (λ k. k + length (of_text of)) (length-replicate n 91) in
    let count : length text - length (of_text of) ≡ n = omega (arith, size) in
    ap (λ l. if nat_eq (length l) (length text) then plain_name prefix text else take (length text - length l) text ++ plain_elements prefix l) (after_all n of)
    ∙ ap (λ t. if t then plain_name prefix text else take (length text - length (of_text of)) text ++ plain_elements prefix (of_text of))
    (ne_eqb (length (of_text of)) (length text) (λ e. omega (arith, size, some, e)))
    ∙ ap (λ k. take k text ++ plain_elements prefix (of_text of)) count
    ∙ ap (λ l. l ++ plain_elements prefix (of_text of)) (prefix_of n (of_text of))
    ∙ ap (λ l. replicate n 91 ++ l) (element_plain prefix of)

plain_type : (prefix : Prefix) (dims : ℕ) (of : Of) → (dims ≡ 0 → begins_array (class_name (record { dims = dims; of = of })) ≡ false)
    → plain_text prefix (class_name (record { dims = dims; of = of })) ≡ class_name (plain_class prefix (record { dims = dims; of = of }))
plain_type prefix zero (ofs.Base base) plain = none_left (starts_with nat_eq [] prefix) (length prefix)
plain_type prefix zero (ofs.Class name) plain =
    ap (λ l. if nat_eq (length l) (length name) then plain_name prefix name else take (length name - length l) name ++ plain_elements prefix l) (no_brackets name (plain refl))
    ∙ ap (λ t. if t then plain_name prefix name else take (length name - length name) name ++ plain_elements prefix name) (eq-eqb (length name) (length name) refl)
plain_type prefix (suc dims) of plain =
    let some : 1 ≤ suc dims = omega arith in
    ap (plain_text prefix) (array_name (suc dims) of some)
    ∙ plain_array prefix (suc dims) of some
    ∙ sym (array_name (suc dims) (of_map (plain_name prefix) of) some)

pub plain_reported : (types : List Ty) (prefix : Prefix) (class : ℕ) (start text : List ℕ) → ArePlain types → class < length types → start ≡ prefix → text ≡ class_name (type_at types class)
    → plain_text start text ≡ class_name (plain_class prefix (type_at types class))
plain_reported types prefix class start text plain within first named =
    ap (λ p. plain_text p text) first
    ∙ ap (plain_text prefix) named
    ∙ plain_type prefix (type_at types class).dims (type_at types class).of (plain class within)

-- ---- what is shown

shown_found : (prefix : Prefix) (types : List Ty) (class : ℕ) (o : Option (Object ℕ)) → option_map class_of o ≡ Some class
    → shown_class prefix (type_at types class) ≡ shown_held prefix types o
shown_found prefix types class None e = absurd cc
shown_found prefix types class (Some o) e = let same : class_of o ≡ class = cc in ap (λ k. shown_class prefix (type_at types k)) (sym same)

pub shown_is : (prefix : Prefix) (types : List Ty) (h : LimitedHeap) (r n class : ℕ) → n ≡ r → option_map class_of (object_in h n) ≡ Some class
    → shown_class prefix (type_at types class) ≡ shown_at prefix types h r
shown_is prefix types h r n class same e = shown_found prefix types class (object_in h n) e ∙ ap (shown_at prefix types h) same

pub shown_none : (prefix : Prefix) (types : List Ty) (h : LimitedHeap) (r : ℕ) → object_in h r ≡ None → [] ≡ shown_at prefix types h r
shown_none prefix types h r e = sym (ap (shown_held prefix types) e)
