-- The arrays of rows, in order, are those that have numbers.
use Rattle.std.proofs.Common.{◌≡◌, ◌↔◌, ℕ, ◌≤◌, ◌⊎◌, Bool, true, false, cond, ◌&&◌, List, [], ◌∷◌, ◌++◌, map, Option, Some, None, refl, sym, ap, subst, ◌∙◌, inl, inr, arith, Contains, IsTrue, Ordering}
use Rattle.std.specs.declared.cmp.Ordering.TheVariants.{Less, Equal, Greater}
use Rattle.std.specs.Prelude.{nat_le, Result, Ok, Err, IfOk}
use Rattle.std.specs.Global.{Vec}
use Rattle.std.specs.Ordering.{nat_cmp, is_eq}
use Rattle.std.specs.Cmp.Lexicographic.{slice_cmp}
use Rattle.std.specs.List.{AllByRecursion, list_all}
use Rattle.std.specs.Map.{keys_of, values_of}
use Rattle.std.proofs.lemmas.Bool.Decides.{nat_tests}
use Rattle.std.proofs.lemmas.Option.{none-some, same_Some}
use Rattle.dj_names.specs.declared.descriptor.Base.TheVariants as bases
use Rattle.dj_names.specs.declared.descriptor.Of.{Of}
use Rattle.dj_names.specs.declared.descriptor.Ty.{Ty}
use Rattle.dj_names.specs.trusted.Types.{Name, base_array}
use Rattle.dj_names.specs.trusted.Descriptors.{of_text}
use Rattle.dj_model.specs.trusted.Program.{Program}
use Rattle.dj_numbering.specs.declared.shapes.Shape.{Shape}
use Rattle.dj_numbering.specs.Shapes.{AreElements, shape_in, shape_type}
use Rattle.dj_numbering.specs.Typed.{is_known_of, is_array_of, arrays_rise, AreArrays}
use Rattle.dj_image.specs.Imaged.{IsPartOf}
use Rattle.dj_image.specs.declared.parts.ClassParts.{ClassParts}
use Rattle.dj_image.specs.Uses.{used_types}
use Rattle.dj_image.specs.ArrayRows.{ArrayRows, RowsRiseStrictly, dims_in, most_at, has_row, IsKeyed, IsRow, AreRows, AreAllKnown, known_types, wholes_of, levels}
use Rattle.dj_image.proofs.RowFacts.{Entries, found_in, same_items, of_once, has_parts, has_from, both}
use Rattle.dj_image.proofs.Levels.{IsUnder, Ordered, ordered_from, type_levels, levels_types, elements_levels, under_levels, levels_under, levels_rise, top_found}
use Rattle.dj_image.proofs.Members.{member_first, member_later, member_none, member_cases, member_of_filter}

-- ---- values and rows

keyed_value : (es : Entries) → AllByRecursion IsKeyed es → (t : Ty) → Contains (values_of es) t → (1 ≤ t.dims) × (t.dims ≤ 255)
keyed_value [] keyed t m = absurd (member_none t m)
keyed_value (e ∷ es) keyed t m = elim (member_cases e.1 (values_of es) t m) [
  | inl same ↦ (subst (λ (v : Ty). 1 ≤ v.dims) same keyed.0.1, subst (λ (v : Ty). v.dims ≤ 255) same keyed.0.2)
  | inr later ↦ keyed_value es keyed.1 t later
]

-- what is found at a text
found_by : (e : Vec ℕ × Ty) (es : Entries) (text : Name) (t : Ty) → IsKeyed e → ((found_in es text ≡ Some t) → Contains (values_of es) t × (of_text t.of ≡ text)) → (r : Ordering) → slice_cmp nat_cmp text e.0.items ≡ r
    → cond (is_eq r) (Some e.1) (found_in es text) ≡ Some t → Contains (e.1 ∷ values_of es) t × (of_text t.of ≡ text)
found_by e es text t keyed rest Less order found = let later = rest found in (member_later e.1 (values_of es) t later.0, later.1)
found_by e es text t keyed rest Equal order found =
    let same : e.1 ≡ t = same_Some e.1 t found in
    (subst (λ (v : Ty). Contains (e.1 ∷ values_of es) v) same (member_first e.1 (values_of es)), ap (λ (v : Ty). of_text v.of) (sym same) ∙ keyed.0 ∙ sym (same_items text e.0.items order))
found_by e es text t keyed rest Greater order found = let later = rest found in (member_later e.1 (values_of es) t later.0, later.1)

found_value : (es : Entries) → AllByRecursion IsKeyed es → (text : Name) (t : Ty) → found_in es text ≡ Some t → Contains (values_of es) t × (of_text t.of ≡ text)
found_value [] keyed text t is = absurd (none-some t is)
found_value (e ∷ es) keyed text t is = found_by e es text t keyed.0 (found_value es keyed.1 text t) (slice_cmp nat_cmp text e.0.items) refl is

module _ (wholes : List Ty) (rows : ArrayRows) (are : AreRows wholes rows) (up : RowsRiseStrictly (keys_of rows.entries)) where
  abbrev tops : List Ty
  tops = values_of rows.entries

  most_of_top : (t : Ty) → Contains tops t → most_at rows (of_text t.of) ≡ t.dims
  most_of_top t m = ap dims_in (top_found rows.entries are.keyed (ordered_from rows.entries up) t m)

  pub top_row : (t : Ty) → Contains tops t → IsRow wholes t
  top_row t m = (are.each t).0 (has_from rows t t.dims (sym (most_of_top t m)) ((keyed_value rows.entries are.keyed t m).0) (omega arith))

  under_row : (ty : Ty) → IsUnder 255 tops ty → IsRow wholes ty
  under_row ty under = (are.each ty).0 (has_from rows ty under.top.dims (sym (ap (λ (of : Of). most_at rows (of_text of)) under.same ∙ most_of_top under.top under.there)) under.some under.within)

  row_under : (ty : Ty) → IsTrue (has_row rows ty) → IsUnder 255 tops ty
  row_under ty t = by (found_in rows.entries (of_text ty.of)) refl where
    parts : (1 ≤ ty.dims) × (ty.dims ≤ most_at rows (of_text ty.of))
    parts = has_parts rows ty t

    by : (o : Option Ty) → found_in rows.entries (of_text ty.of) ≡ o → IsUnder 255 tops ty
    by None is = absurd (omega (arith, parts.0, parts.1, ap dims_in is))
    by (Some top) is =
        let found = found_value rows.entries are.keyed (of_text ty.of) top is in
        let few = (keyed_value rows.entries are.keyed top found.0).1 in
        record { top = top; there = found.0; some = parts.0; few = omega (arith, parts.1, ap dims_in is, few); within = omega (arith, parts.1, ap dims_in is); same = of_once ty.of top.of (sym found.1) }

  pub numbered_levels : (ty : Ty) → Contains (type_levels 255 tops) ty ↔ IsRow wholes ty
  numbered_levels ty = (λ m. under_row ty (under_levels 255 tops ty m), λ row. levels_under 255 tops ty (row_under ty ((are.each ty).1 row)))

-- ---- each is an array whose elements' class is there

fit_first : (program : Program) (ty whole : Ty) → IsPartOf ty whole → IsTrue (is_known_of program whole.of) → IsTrue (is_array_of program ty)
fit_first program ty whole part known =
    both (nat_le 1 ty.dims) (nat_le ty.dims 255 && is_known_of program ty.of) (le_true 1 ty.dims part.array)
    (both (nat_le ty.dims 255) (is_known_of program ty.of) (le_true ty.dims 255 part.few) (ap (is_known_of program) part.same ∙ known)) where
      le_true : (a b : ℕ) → a ≤ b → nat_le a b ≡ true
      le_true a b le = grind (arith, nat_tests)

whole_known : (program : Program) (parts : List ClassParts) (whole : Ty) → Contains (wholes_of program parts) whole → IsTrue (is_known_of program whole.of)
whole_known program parts whole m = elim (member_cases (base_array bases.Byte) ((base_array bases.Char ∷ []) ++ known_types program (used_types parts)) whole m) [
  | inl byte ↦ ap (λ (t : Ty). is_known_of program t.of) (sym byte)
  | inr more ↦ elim (member_cases (base_array bases.Char) (known_types program (used_types parts)) whole more) [
    | inl char ↦ ap (λ (t : Ty). is_known_of program t.of) (sym char)
    | inr used ↦ (member_of_filter (λ (t : Ty). is_known_of program t.of) (used_types parts) whole used).1
  ]
]

all_members : (p : Ty → Bool) (xs : List Ty) → ((x : Ty) → Contains xs x → IsTrue (p x)) → IsTrue (list_all p xs)
all_members p [] each = refl
all_members p (x ∷ xs) each = both (p x) (list_all p xs) (each x (member_first x xs)) (all_members p xs (λ y m. each y (member_later x xs y m)))

all_from : (program : Program) (tys : List Ty) → ((t : Ty) → Contains tys t → IsTrue (is_known_of program t.of)) → AreAllKnown program tys
all_from program [] each = tt
all_from program (t ∷ tys) each = (each t (member_first t tys), all_from program tys (λ u m. each u (member_later t tys u m)))

module _ (program : Program) (parts : List ClassParts) (rows : ArrayRows) (are : AreRows (wholes_of program parts) rows) (up : RowsRiseStrictly (keys_of rows.entries)) where
  pub tops_known : AreAllKnown program (values_of rows.entries)
  tops_known = all_from program (values_of rows.entries) (λ t m. let row = top_row (wholes_of program parts) rows are up t m in ap (is_known_of program) row.2.same ∙ whole_known program parts row.0 row.1)

  module _ (shapes tops : List Shape) (is : shapes ≡ levels 255 tops) (tops_are : tops ≡ map (shape_in program) (values_of rows.entries)) where
    types_are : map (shape_type program) shapes ≡ type_levels 255 (values_of rows.entries)
    types_are = ap (map (shape_type program)) (is ∙ ap (levels 255) tops_are) ∙ levels_types program 255 (values_of rows.entries) tops_known

    pub numbered_rows : (ty : Ty) → Contains (map (shape_type program) shapes) ty ↔ IsRow (wholes_of program parts) ty
    numbered_rows ty = subst (λ (xs : List Ty). Contains xs ty ↔ IsRow (wholes_of program parts) ty) (sym types_are) (numbered_levels (wholes_of program parts) rows are up ty)

    pub are_elements : AreElements program shapes
    are_elements = subst (AreElements program) (sym (is ∙ ap (levels 255) tops_are)) (elements_levels program 255 (values_of rows.entries) tops_known)

    pub are_arrays : AreArrays program (map (shape_type program) shapes)
    are_arrays = record {
      each = all_members (is_array_of program) (map (shape_type program) shapes) each;
      rise = subst (λ (xs : List Ty). IsTrue (arrays_rise xs)) (sym types_are) (levels_rise 255 rows.entries are.keyed (ordered_from rows.entries up));
    } where
      each : (ty : Ty) → Contains (map (shape_type program) shapes) ty → IsTrue (is_array_of program ty)
      each ty m = let row = (numbered_rows ty).0 m in fit_first program ty row.0 row.2 (whole_known program parts row.0 row.1)

-- ---- results

pub both_ok : {T E : Type 0} (r : Result T E) (P Q R : T → Type 0) → IfOk r P → IfOk r Q → ((x : T) → P x → Q x → R x) → IfOk r R
both_ok (Ok x) P Q R p q f = f x p q
both_ok (Err e) P Q R p q f = tt

pub ok_gives : {T E : Type 0} (r : Result T E) (P Q : T → Type 0) → IfOk r P → ((x : T) → P x → Q x) → IfOk r Q
ok_gives (Ok x) P Q p f = f x p
ok_gives (Err e) P Q p f = tt
