-- Rows of arrays, and lent types, by plain values.
use Rattle.std.proofs.Common.{◌≡◌, ℕ, ◌≤◌, ◌&&◌, true, false, cond, List, [], ◌∷◌, map, length, Some, None, IsTrue, Ordering, refl, sym, ap, ◌∙◌, subst, codes, pos, inl, inr, arith, Bor}
use Rattle.std.specs.declared.cmp.Ordering.TheVariants.{Less, Equal, Greater}
use Rattle.std.specs.Prelude.{nat_le}
use Rattle.std.specs.Global.{Vec}
use Rattle.std.specs.List.{AllByRecursion}
use Rattle.std.specs.Ordering.{nat_cmp, is_eq}
use Rattle.std.specs.Cmp.Lexicographic.{slice_cmp}
use Rattle.std.proofs.lemmas.Bool.{false≢true}
use Rattle.dj_names.specs.declared.descriptor.Base.TheVariants as bases
use Rattle.dj_names.specs.declared.descriptor.Of.TheVariants as ofs
use Rattle.dj_names.specs.declared.descriptor.Ty.{Ty}
use Rattle.dj_names.specs.trusted.Types.{Name, base_array, array_type}
use Rattle.dj_names.specs.trusted.Descriptors.{of_text, type_text}
use Rattle.dj_pool.specs.trusted.Pool.{Integer}
use Rattle.dj_numbering.specs.declared.shapes.ElementType.TheVariants as elements
use Rattle.dj_numbering.specs.declared.shapes.Shape.{Shape}
use Rattle.dj_image.specs.declared.lent_type.LentOf.TheVariants as lents
use Rattle.dj_image.specs.declared.uses.Use.TheVariants as uses
use Rattle.dj_image.specs.Imaged.{IsPartOf}
use Rattle.dj_image.specs.ArrayRows.{ArrayRows, dims_in, most_at, has_row, IsKeyed, IsRow, AreRows, AreAllKnown, level, levels, of_lent, type_lent, IsFitUse, brackets, first_wholes, wholes_of}
use Rattle.dj_image.proofs.Members.{member_first, member_none, member_cases}
use Rattle.dj_image.proofs.RowFacts.{of_once, same_items, found_in, has_parts}
use Rattle.dj_image.proofs.TypeFacts.{other_text, other_type, ints}

-- arrays of arrays of ints
abbrev deep : Ty
deep = array_type ints

-- ---- texts and first rows

brackets_counted : map brackets ([] ∷ codes "I" ∷ codes "[I" ∷ codes "[[LA;" ∷ codes "I[" ∷ []) ≡ 0 ∷ 0 ∷ 1 ∷ 2 ∷ 0 ∷ []
brackets_counted = refl

-- arrays of bytes and of chars, and without classes no others
first_reported : (map type_text first_wholes ≡ codes "[B" ∷ codes "[C" ∷ []) × (wholes_of [] [] ≡ first_wholes)
first_reported = (refl, refl)

no_first_left_out : first_wholes ≡ base_array bases.Byte ∷ [] → ⊥
no_first_left_out e = let bad : codes "[C" ≡ [] = ap (λ (tys : List Ty). second_text tys) e in other_text (codes "[C") [] refl refl bad where
  second_text : List Ty → Name
  second_text [] = []
  second_text (a ∷ []) = []
  second_text (a ∷ (b ∷ more)) = type_text b

-- ---- types that are lent

lent : (of_lent (lents.Base bases.Int) ≡ ofs.Base bases.Int) × (type_lent (record { dims = 2; of = lents.Base bases.Int }) ≡ deep)
lent = (refl, refl)

lent_class : (name : Bor (List ℕ)) → name.now ≡ codes "A" → of_lent (lents.Class name) ≡ ofs.Class (codes "A")
lent_class name is = ap ofs.Class is

not_elements : type_lent (record { dims = 2; of = lents.Base bases.Int }) ≡ ints → ⊥
not_elements e = other_type deep ints refl refl e

-- what names no text, but a base type or a text that is pushed; and what would name one that isn't there
fit : IsFitUse [] (uses.Base 10) × IsFitUse [] (uses.Pushed 3)
fit = (tt, tt)

no_text_itself : IsFitUse (Integer (pos 7) ∷ []) (uses.Itself 1) → ⊥
no_text_itself fit = fit

no_text_of_elements : IsFitUse (Integer (pos 7) ∷ []) (uses.Element 2) → ⊥
no_text_of_elements fit = fit

-- ---- rows

ints_itself : IsPartOf ints ints
ints_itself = record { array = omega arith; few = omega arith; within = omega arith; same = refl }

ints_of_deep : IsPartOf ints deep
ints_of_deep = record { array = omega arith; few = omega arith; within = omega arith; same = refl }

-- one row, of arrays of ints with one dimension at most
module _ (key : Vec ℕ) (key_is : key.items ≡ codes "I") (rows : ArrayRows) (is : rows.entries ≡ (key, ints) ∷ []) where
  most_by : (text : Name) → most_at rows text ≡ dims_in (cond (is_eq (slice_cmp nat_cmp text (codes "I"))) (Some ints) None)
  most_by text =
      ap (λ (es : List (Vec ℕ × Ty)). dims_in (found_in es text)) is
      ∙ ap (λ (t : Name). dims_in (cond (is_eq (slice_cmp nat_cmp text t)) (Some ints) None)) key_is

  has_ints : IsTrue (has_row rows ints)
  has_ints = ap (λ (n : ℕ). nat_le 1 1 && nat_le 1 n) (most_by (codes "I"))

  is_ints : (ty : Ty) → IsTrue (has_row rows ty) → ty ≡ ints
  is_ints ty has = by (slice_cmp nat_cmp (of_text ty.of) (codes "I")) refl where
    most_if : (r : Ordering) → slice_cmp nat_cmp (of_text ty.of) (codes "I") ≡ r → most_at rows (of_text ty.of) ≡ dims_in (cond (is_eq r) (Some ints) None)
    most_if r e = most_by (of_text ty.of) ∙ ap (λ (o : Ordering). dims_in (cond (is_eq o) (Some ints) None)) e

    none : most_at rows (of_text ty.of) ≡ 0 → ⊥
    none e = let parts = has_parts rows ty has in omega (arith, parts.0, parts.1, e)

    by : (r : Ordering) → slice_cmp nat_cmp (of_text ty.of) (codes "I") ≡ r → ty ≡ ints
    by Less e = absurd (none (most_if Less e))
    by Equal e =
        let parts = has_parts rows ty has in
        let own : most_at rows (of_text ty.of) ≡ 1 = most_if Equal e in
        let one : ty.dims ≡ 1 = omega (arith, parts.0, parts.1, own) in
        let of : ty.of ≡ ints.of = of_once ty.of ints.of (same_items (of_text ty.of) (codes "I") e) in
        (λ i. record { dims = one i; of = of i })
    by Greater e = absurd (none (most_if Greater e))

  row_of : (ty : Ty) → IsTrue (has_row rows ty) → IsRow (ints ∷ []) ty
  row_of ty has = subst (λ (t : Ty). IsRow (ints ∷ []) t) (sym (is_ints ty has)) (ints, member_first ints [], ints_itself)

  part_is : (ty : Ty) → IsPartOf ty ints → ty ≡ ints
  part_is ty part =
      let within : ty.dims ≤ 1 = part.within in
      let one : ty.dims ≡ 1 = omega (arith, part.array, within) in
      (λ i. record { dims = one i; of = part.same i })

  of_row : (ty : Ty) → IsRow (ints ∷ []) ty → IsTrue (has_row rows ty)
  of_row ty (whole, there, part) = elim (member_cases ints [] whole there) [
    | inl e ↦ subst (λ (t : Ty). IsTrue (has_row rows t)) (sym (part_is ty (subst (λ (w : Ty). IsPartOf ty w) (sym e) part))) has_ints
    | inr none ↦ absurd (member_none whole none)
  ]

  keyed : AllByRecursion IsKeyed rows.entries
  keyed = subst (λ (es : List (Vec ℕ × Ty)). AllByRecursion IsKeyed es) (sym is) ((sym key_is, omega arith, omega arith), tt)

  rows_reported : AreRows (ints ∷ []) rows
  rows_reported = record { keyed = keyed; each = λ ty. (row_of ty, of_row ty) }

  -- not of no array, nor of one of more dimensions
  of_none : AreRows [] rows → ⊥
  of_none are = let row : IsRow [] ints = (are.each ints).0 has_ints in member_none row.0 row.1

  whole_left_out : AreRows (deep ∷ []) rows → ⊥
  whole_left_out are =
      let has : IsTrue (has_row rows deep) = (are.each deep).1 (deep, member_first deep [], record { array = omega arith; few = omega arith; within = omega arith; same = refl }) in
      other_type deep ints refl refl (is_ints deep has)

-- a row of more dimensions has the elements too, and isn't one of fewer
elements_had : (key : Vec ℕ) (rows : ArrayRows) → key.items ≡ codes "I" → rows.entries ≡ (key, deep) ∷ [] → IsTrue (has_row rows ints)
elements_had key rows key_is is =
    ap (λ (es : List (Vec ℕ × Ty)). nat_le 1 1 && nat_le 1 (dims_in (found_in es (codes "I")))) is
    ∙ ap (λ (text : Name). nat_le 1 1 && nat_le 1 (dims_in (cond (is_eq (slice_cmp nat_cmp (codes "I") text)) (Some deep) None))) key_is

too_many_dims : (key : Vec ℕ) (rows : ArrayRows) → key.items ≡ codes "I" → rows.entries ≡ (key, deep) ∷ [] → AreRows (ints ∷ []) rows → ⊥
too_many_dims key rows key_is is are =
    let has : IsTrue (has_row rows deep) =
    ap (λ (es : List (Vec ℕ × Ty)). nat_le 1 2 && nat_le 2 (dims_in (found_in es (codes "I")))) is
    ∙ ap (λ (text : Name). nat_le 1 2 && nat_le 2 (dims_in (cond (is_eq (slice_cmp nat_cmp (codes "I") text)) (Some deep) None))) key_is in
    let row : IsRow (ints ∷ []) deep = (are.each deep).0 has in
    elim (member_cases ints [] row.0 row.1) [
      | inl e ↦ let within : 2 ≤ 1 = subst (λ (w : Ty). 2 ≤ w.dims) (sym e) row.2.within in omega (arith, within)
      | inr none ↦ member_none row.0 none
    ]

-- nor without rows, nor where a row stands at the text of other elements
without_rows : (rows : ArrayRows) → rows.entries ≡ [] → AreRows (ints ∷ []) rows → ⊥
without_rows rows is are =
    let has : IsTrue (has_row rows ints) = (are.each ints).1 (ints, member_first ints [], ints_itself) in
    let none : has_row rows ints ≡ false = ap (λ (es : List (Vec ℕ × Ty)). nat_le 1 1 && nat_le 1 (dims_in (found_in es (codes "I")))) is in
    false≢true (sym none ∙ has)

at_other_text : (wholes : List Ty) (key : Vec ℕ) (rows : ArrayRows) → key.items ≡ codes "J" → rows.entries ≡ (key, ints) ∷ [] → AreRows wholes rows → ⊥
at_other_text wholes key rows key_is is are =
    let all : AllByRecursion IsKeyed ((key, ints) ∷ []) = subst (λ (es : List (Vec ℕ × Ty)). AllByRecursion IsKeyed es) is are.keyed in
    other_text (codes "I") (codes "J") refl refl (all.0.0 ∙ key_is)

-- nor where it has more dimensions than a descriptor spells, or none
too_deep : (key : Vec ℕ) → IsKeyed (key, record ints { dims = 256 }) → ⊥
too_deep key reported = let few : 256 ≤ 255 = reported.2 in omega (arith, few)

no_array : (key : Vec ℕ) → IsKeyed (key, record ints { dims = 0 }) → ⊥
no_array key reported = let some : 1 ≤ 0 = reported.1 in omega (arith, some)

-- ---- in order

-- arrays of arrays of ints, and arrays of a class
abbrev two_tops : List Shape
two_tops = record { dims = 2; of = elements.Base bases.Int } ∷ record { dims = 1; of = elements.Class 0 } ∷ []

first_level : level 1 two_tops ≡ record { dims = 1; of = elements.Base bases.Int } ∷ record { dims = 1; of = elements.Class 0 } ∷ []
first_level = refl

second_level : level 2 two_tops ≡ record { dims = 2; of = elements.Base bases.Int } ∷ []
second_level = refl

fewer_first : map (λ (s : Shape). s.dims) (levels 3 two_tops) ≡ 1 ∷ 1 ∷ 2 ∷ []
fewer_first = refl

not_tops_alone : levels 3 two_tops ≡ two_tops → ⊥
not_tops_alone e = let count : 3 ≡ 2 = ap length e in omega (arith, count)

known : AreAllKnown [] (ints ∷ []) × (AreAllKnown [] (record { dims = 1; of = ofs.Class (codes "A") } ∷ []) → ⊥)
known = ((refl, tt), λ all. false≢true all.0)
