-- Rows of what more and more instructions use.
use Rattle.std.proofs.Common.{◌≡◌, ℕ, ◌+◌, ◌<◌, ◌≤◌, List, [], ◌∷◌, ◌++◌, take, length, get_or, Option, Some, None, refl, sym, ap, subst, ◌∙◌, Contains}
use Rattle.std.specs.List.{filter_map, AllByRecursion}
use Rattle.std.specs.Option.{option_to_list}
use Rattle.std.proofs.lemmas.List.{take_all, take_more, append_assoc, append-nil}
use Rattle.std.proofs.lemmas.List.Elements.{All-get_or, All-from_recursion, Contains-get_or, filter-append, filter_map-append}
use Rattle.dj_names.specs.declared.descriptor.Ty.{Ty}
use Rattle.dj_program.specs.declared.code.MethodCode.{MethodCode}
use Rattle.dj_pool.specs.trusted.Pool.{Constant, IsPool}
use Rattle.dj_model.specs.trusted.Program.{Program}
use Rattle.dj_numbering.specs.Typed.{is_known_of}
use Rattle.dj_image.specs.declared.parts.ClassParts.{ClassParts}
use Rattle.dj_image.specs.declared.uses.Use.{Use}
use Rattle.dj_image.specs.Uses.{SameMembers, use_in, code_uses, class_uses, used_type, class_types, used_types}
use Rattle.dj_image.specs.Parts.{FitClasses}
use Rattle.dj_image.specs.ArrayRows.{ArrayRows, AreRows, IsFitUse, known_types}
use Rattle.dj_image.proofs.Members.{member_of_filter_map, member_of_flat_map, member_none, same_append, same_filter, same_filter_map}
use Rattle.dj_image.proofs.UseLists.{same_itself, flat_map_more}
use Rattle.dj_image.proofs.Links.{fits}

-- ---- uses fit

code_fits : (pool : List Constant) → IsPool pool → (code : Option MethodCode) (one : Use) → Contains (code_uses pool code) one → IsFitUse pool one
code_fits pool valid None one m = absurd (member_none one m)
code_fits pool valid (Some code) one m = let found = member_of_filter_map (use_in pool) code.code.code one m in fits pool found.0 one valid found.2

pub use_fits : (parts : ClassParts) → IsPool parts.pool → (one : Use) → Contains (class_uses parts) one → IsFitUse parts.pool one
use_fits parts valid one m = let found = member_of_flat_map (code_uses parts.pool) parts.codes.items one m in code_fits parts.pool valid found.0 one found.2

pub item_fits : (parts : ClassParts) (listed items : List Use) (i : ℕ) (d : Use) → IsPool parts.pool → SameMembers listed (class_uses parts) → items ≡ listed → i < length items → IsFitUse parts.pool (get_or items i d)
item_fits parts listed items i d valid same is within = use_fits parts valid (get_or items i d) ((same (get_or items i d)).0 (subst (λ (us : List Use). Contains us (get_or items i d)) is (Contains-get_or items i d within)))

-- ---- rows of more

pub same_rows : (xs ys : List Ty) (rows : ArrayRows) → SameMembers xs ys → AreRows xs rows → AreRows ys rows
same_rows xs ys rows same are = record {
  keyed = are.keyed;
  each = λ ty. (
    λ t. let row = (are.each ty).0 t in (row.0, (same row.0).0 row.1, row.2),
    λ row. (are.each ty).1 (row.0, (same row.0).1 row.1, row.2),
  );
}

known_append : (program : Program) (xs ys : List Ty) → known_types program (xs ++ ys) ≡ known_types program xs ++ known_types program ys
known_append program xs ys = filter-append (λ (ty : Ty). is_known_of program ty.of) xs ys

pub one_more : (program : Program) (wholes xs ys : List Ty) → (wholes ++ known_types program xs) ++ known_types program ys ≡ wholes ++ known_types program (xs ++ ys)
one_more program wholes xs ys = append_assoc wholes (known_types program xs) (known_types program ys) ∙ ap (λ (zs : List Ty). wholes ++ zs) (sym (known_append program xs ys))

pub filter_map_more : {A B : Type 0} (f : A → Option B) (xs : List A) (i : ℕ) (d : A) → i < length xs → filter_map f (take (i + 1) xs) ≡ filter_map f (take i xs) ++ option_to_list (f (get_or xs i d))
filter_map_more {A} {B} f xs i d within = rw (take_more xs i d within, filter_map-append f (take i xs) (get_or xs i d ∷ [])) (ap (λ (ys : List B). filter_map f (take i xs) ++ ys) (one (f (get_or xs i d)))) where
  one : (o : Option B) → filter_map (λ (u : Option B). u) (o ∷ []) ≡ option_to_list o
  one None = refl
  one (Some b) = refl

pub use_step : (program : Program) (pool : List Constant) (listed : List Use) (i : ℕ) (d one : Use) (wholes : List Ty) (rows : ArrayRows) → i < length listed → one ≡ get_or listed i d
    → AreRows ((wholes ++ known_types program (filter_map (used_type pool) (take i listed))) ++ known_types program (option_to_list (used_type pool one))) rows
    → AreRows (wholes ++ known_types program (filter_map (used_type pool) (take (i + 1) listed))) rows
use_step program pool listed i d one wholes rows within is are =
    let types = filter_map (used_type pool) (take i listed) in
    subst (λ (xs : List Ty). AreRows xs rows)
    (one_more program wholes types (option_to_list (used_type pool one))
    ∙ ap (λ (u : Use). wholes ++ known_types program (types ++ option_to_list (used_type pool u))) is
    ∙ ap (λ (xs : List Ty). wholes ++ known_types program xs) (sym (filter_map_more (used_type pool) listed i d within)))
    are

pub no_use : (program : Program) (pool : List Constant) (listed : List Use) (wholes : List Ty) (rows : ArrayRows) → AreRows wholes rows → AreRows (wholes ++ known_types program (filter_map (used_type pool) (take 0 listed))) rows
no_use program pool listed wholes rows are = subst (λ (xs : List Ty). AreRows xs rows) (sym (append-nil wholes)) are

pub class_done : (program : Program) (parts : ClassParts) (uses listed : List Use) (i : ℕ) (wholes : List Ty) (rows : ArrayRows) → SameMembers uses (class_uses parts) → listed ≡ uses → length listed ≤ i
    → AreRows (wholes ++ known_types program (filter_map (used_type parts.pool) (take i listed))) rows → AreRows (wholes ++ known_types program (class_types parts)) rows
class_done program parts uses listed i wholes rows kept is past are =
    let same : SameMembers listed (class_uses parts) = subst (λ (us : List Use). SameMembers us (class_uses parts)) (sym is) kept in
    let f = used_type parts.pool in
    same_rows (wholes ++ known_types program (filter_map f listed)) (wholes ++ known_types program (class_types parts)) rows
    (same_append wholes wholes (known_types program (filter_map f listed)) (known_types program (class_types parts)) (same_itself wholes)
    (same_filter (λ (ty : Ty). is_known_of program ty.of) (filter_map f listed) (class_types parts) (same_filter_map f listed (class_uses parts) same)))
    (subst (λ (xs : List Use). AreRows (wholes ++ known_types program (filter_map f xs)) rows) (take_all i listed past) are)

pub class_step : (program : Program) (parts : List ClassParts) (i : ℕ) (d one : ClassParts) (wholes : List Ty) (rows : ArrayRows) → i < length parts → one ≡ get_or parts i d
    → AreRows ((wholes ++ known_types program (used_types (take i parts))) ++ known_types program (class_types one)) rows
    → AreRows (wholes ++ known_types program (used_types (take (i + 1) parts))) rows
class_step program parts i d one wholes rows within is are =
    subst (λ (xs : List Ty). AreRows xs rows)
    (one_more program wholes (used_types (take i parts)) (class_types one) ∙ ap (λ (p : ClassParts). wholes ++ known_types program (used_types (take i parts) ++ class_types p)) is ∙ ap (λ (xs : List Ty). wholes ++ known_types program xs) (sym (flat_map_more class_types parts i d within)))
    are

pub classes_done : (program : Program) (parts : List ClassParts) (i : ℕ) (wholes : List Ty) (rows : ArrayRows) → length parts ≤ i → AreRows (wholes ++ known_types program (used_types (take i parts))) rows → AreRows (wholes ++ known_types program (used_types parts)) rows
classes_done program parts i wholes rows past are = subst (λ (ps : List ClassParts). AreRows (wholes ++ known_types program (used_types ps)) rows) (take_all i parts past) are

-- ---- pools

pub pools_of : (program : Program) (parts : List ClassParts) → FitClasses program parts → AllByRecursion (λ (p : ClassParts). IsPool p.pool) parts
pools_of [] [] fit = tt
pools_of (c ∷ classes) (p ∷ parts) fit = (fit.0.valid, pools_of classes parts fit.1)
pools_of [] (p ∷ parts) fit = absurd fit
pools_of (c ∷ classes) [] fit = tt

pub item_pool : (program : Program) (parts : List ClassParts) (i : ℕ) (one : ClassParts) → FitClasses program parts → i < length parts → one ≡ get_or parts i one → IsPool one.pool
item_pool program parts i one fit within is =
    subst (λ (p : ClassParts). IsPool p.pool) (sym is) (All-get_or (λ (p : ClassParts). IsPool p.pool) parts i one within (All-from_recursion (λ (p : ClassParts). IsPool p.pool) parts (pools_of program parts fit)))
