-- Instance fields of classes, by names and by numbers.
use Rattle.std.proofs.Common.{◌≡◌, ℕ, ◌+◌, ◌-◌, ◌<◌, ◌≤◌, Bool, true, false, not, cond, List, [], ◌∷◌, length, get_or, Option, Some, IfSome, inl, inr, refl, sym, ap, ◌∙◌, subst, arith}
use Rattle.std.specs.Prelude.{slice_get, unwrap_or}
use Rattle.std.specs.Option.{option_map}
use Rattle.std.proofs.lemmas.Bool.{cases_lt}
use Rattle.std.proofs.lemmas.List.{get_or_read, get_or_past}
use Rattle.std.proofs.lemmas.Option.{slice_get_past}
use Rattle.dj_names.specs.declared.descriptor.Desc.{Desc}
use Rattle.dj_names.specs.trusted.Types.{Name}
use Rattle.dj_model.specs.trusted.Program.{Program, Class, Field, class_at, fields_of, is_named, is_static}
use Rattle.dj_model.specs.trusted.Linking.{FoundField, chain, superclasses, count_fields, fields_before, own_field_count, fields_in, field_count, own_place, place_of}
use Rattle.dj_class_table.specs.Tables.{class_numbers, name_of, name_at, super_number, fields_at, field_there}
use Rattle.dj_class_table.specs.declared.place.Place.{Place}
use Rattle.dj_class_table.proofs.Numbered.{class_at-at}
use Rattle.dj_resolution.specs.Linked.{class_name}
use Rattle.dj_resolution.specs.Numbers.{numbers_up, most_above}
use Rattle.dj_resolution.proofs.Climbs.{one_more_level}
use Rattle.dj_resolution.proofs.Resolution.{DoNamesDiffer, numbers_of_class}
use Rattle.dj_resolution.proofs.Specials.{superclass_numbers}
use Rattle.dj_resolution.proofs.Walks.{Missing, There, looked}
use Rattle.dj_numbering.specs.Numbered.{fields_of_numbers, fields_up, AreSums}
use Rattle.dj_numbering.proofs.Starts.{some_there}

fields_in_numbers : (program : Program) (names : List Name) → fields_in program names ≡ fields_of_numbers program (class_numbers program names)
fields_in_numbers program [] = refl
fields_in_numbers program (name ∷ names) =
    ap (λ (n : ℕ). own_field_count (class_at program name) + n) (fields_in_numbers program names)
    ∙ elim (looked program name) [
      | Missing number class ↦ (let plus : 0 + fields_of_numbers program (class_numbers program names) ≡ fields_of_numbers program (class_numbers program names) = omega arith in rw (number, class) plus)
      | There k c number at class named lt ↦ rw (number, class, at) refl
    ]

-- ---- the count of a class

count_by_name : (program : Program) (class : ℕ) → DoNamesDiffer program → class < length program → field_count program (class_name program class) ≡ fields_up program class
unfolding field_count
count_by_name program class differ lt = fields_in_numbers program (chain program (class_name program class)) ∙ ap (fields_of_numbers program) (numbers_of_class program class differ lt)

-- an array has none
abbrev count_of_name : Program → Option Name → ℕ
count_of_name program name = unwrap_or (option_map (field_count program) name) 0

pub field_count_reported : (program : Program) (sums : List ℕ) (class : ℕ) → AreSums program sums → DoNamesDiffer program → get_or sums class 0 ≡ count_of_name program (name_at program class)
field_count_reported program sums class are differ = elim (cases_lt class (length program)) [
  | inl lt ↦
      let class_is : (c : Class) × (slice_get program class ≡ Some c) = some_there program class lt in
      let named : name_at program class ≡ Some class_is.0.name = rw class_is.1 refl in
      are.each class lt ∙ sym (count_by_name program class differ lt) ∙ ap (λ (o : Option Name). field_count program (unwrap_or o [])) named ∙ sym (ap (count_of_name program) named)
  | inr past ↦
      let long = are.long in
      get_or_past sums class 0 (omega (arith, long, past)) ∙ sym (ap (λ (o : Option Class). count_of_name program (option_map name_of o)) (slice_get_past program class past))
]

-- ---- the place of a field

before_le : (name : Name) (desc : Desc) (fields : List Field) → fields_before false name desc fields ≤ count_fields false fields
before_le name desc [] = omega arith
before_le name desc (f ∷ fields) = by (is_named name desc f.name f.desc) (not (is_static f.flags)) (fields_before false name desc fields) (count_fields false fields) (before_le name desc fields) where
  by : (b w : Bool) (m n : ℕ) → m ≤ n → cond b 0 (cond w (1 + 0) 0 + m) ≤ cond w (1 + n) n
  by true true m n le = omega arith
  by true false m n le = omega arith
  by false true m n le = omega (arith, le)
  by false false m n le = omega (arith, le)

-- what is known of the place of a field
pub record IsFieldPlace (program : Program) (found : Option FoundField) (sum own before : ℕ) : Type 0 where
  pub within : own ≤ sum
  pub fits : (sum - own) + before ≤ sum
  pub is : Some ((sum - own) + before) ≡ option_map (place_of program) found

levels_up : (program : Program) (class : ℕ) → fields_up program class ≡ own_field_count (slice_get program class) + fields_of_numbers program (numbers_up most_above program (super_number program class))
unfolding numbers_up
levels_up program class = ap (λ (n : ℕ). fields_of_numbers program (numbers_up n program (Some class))) one_more_level

above_by_name : (program : Program) (class : ℕ) → DoNamesDiffer program → class < length program
    → fields_in program (superclasses (chain program (class_name program class))) ≡ fields_of_numbers program (numbers_up most_above program (super_number program class))
above_by_name program class differ lt = fields_in_numbers program (superclasses (chain program (class_name program class))) ∙ ap (fields_of_numbers program) (superclass_numbers program class differ lt)

module _ (program : Program) (place : Place) (c : Class) (f : Field) (differ : DoNamesDiffer program) (lt : place.class < length program) (at : slice_get program place.class ≡ Some c) (member : slice_get c.fields place.member ≡ Some f) where
  named : name_at program place.class ≡ Some c.name
  named = rw at refl

  class_is : class_at program c.name ≡ Some c
  class_is = class_at-at program c.name place.class (differ place.class c.name named) ∙ at

  above_is : fields_in program (superclasses (chain program c.name)) ≡ fields_of_numbers program (numbers_up most_above program (super_number program place.class))
  above_is = ap (λ (o : Option Name). fields_in program (superclasses (chain program (unwrap_or o [])))) (sym named) ∙ above_by_name program place.class differ lt

  place_is : place_of program (record { class = c.name; field = f })
      ≡ fields_of_numbers program (numbers_up most_above program (super_number program place.class)) + (c.unnamed_fields + fields_before false f.name f.desc c.fields)
  unfolding place_of
  place_is =
      ap (λ (n : ℕ). n + own_place (class_at program c.name) f.name f.desc) above_is
      ∙ ap (λ (o : Option Class). fields_of_numbers program (numbers_up most_above program (super_number program place.class)) + own_place o f.name f.desc) class_is

  sum_is : fields_up program place.class ≡ (c.unnamed_fields + count_fields false c.fields) + fields_of_numbers program (numbers_up most_above program (super_number program place.class))
  sum_is = levels_up program place.class ∙ ap (λ (o : Option Class). own_field_count o + fields_of_numbers program (numbers_up most_above program (super_number program place.class))) at

  found_is : field_there program place ≡ Some (record { class = c.name; field = f })
  found_is = rw (at, member) refl

  place_by : (sum own before : ℕ) → sum ≡ fields_up program place.class → own ≡ count_fields false c.fields → before ≡ fields_before false f.name f.desc c.fields
      → IsFieldPlace program (field_there program place) sum own before
  place_by sum own before sums owns befores =
      let up = sum_is in
      let le = before_le f.name f.desc c.fields in
      let same = place_is in
      record {
        within = omega (arith, sums, owns, up);
        fits = omega (arith, sums, owns, befores, up, le);
        is =
            (let here : (sum - own) + before ≡ place_of program (record { class = c.name; field = f }) = omega (arith, sums, owns, befores, up, same) in
            ap Some here ∙ ap (option_map (place_of program)) (sym found_is));
      }

pub place_reported : (program : Program) (sums : List ℕ) (place : Place) (found : Option FoundField) (sum own before : ℕ) → AreSums program sums → DoNamesDiffer program → place.class < length program → place.member < length (fields_at program place.class)
    → field_there program place ≡ found → sum ≡ get_or sums place.class sum → own ≡ count_fields false (fields_at program place.class)
    → IfSome (slice_get (fields_at program place.class) place.member) (λ f. before ≡ fields_before false f.name f.desc (fields_at program place.class))
    → IsFieldPlace program found sum own before
place_reported program sums place found sum own before are differ lt within is read owns befores =
    let class : (c : Class) × (slice_get program place.class ≡ Some c) = some_there program place.class lt in
    let fields : fields_at program place.class ≡ class.0.fields = ap fields_of class.1 in
    let field : (f : Field) × (slice_get class.0.fields place.member ≡ Some f) = some_there class.0.fields place.member (subst (λ (fs : List Field). place.member < length fs) fields within) in
    let long = are.long in
    let before_is : IfSome (slice_get class.0.fields place.member) (λ f. before ≡ fields_before false f.name f.desc class.0.fields) =
    subst (λ (fs : List Field). IfSome (slice_get fs place.member) (λ f. before ≡ fields_before false f.name f.desc fs)) fields befores in
    subst (λ (o : Option FoundField). IsFieldPlace program o sum own before) is
    (place_by program place class.0 field.0 differ lt class.1 field.1 sum own before (get_or_read sums place.class sum (omega (arith, long, lt)) read 0 ∙ are.each place.class lt)
    (owns ∙ ap (count_fields false) fields)
    (subst (λ (o : Option Field). IfSome o (λ f. before ≡ fields_before false f.name f.desc class.0.fields)) field.1 before_is))

pub own_within : (program : Program) (sums : List ℕ) (class sum own : ℕ) → AreSums program sums → class < length program → sum ≡ get_or sums class sum → own ≡ count_fields false (fields_at program class) → own ≤ sum
own_within program sums class sum own are lt read owns =
    let c : (c : Class) × (slice_get program class ≡ Some c) = some_there program class lt in
    let long = are.long in
    let sums_up = get_or_read sums class sum (omega (arith, long, lt)) read 0 ∙ are.each class lt ∙ levels_up program class
    ∙ ap (λ (o : Option Class). own_field_count o + fields_of_numbers program (numbers_up most_above program (super_number program class))) c.1 in
    let own_is = owns ∙ ap (λ (o : Option Class). count_fields false (fields_of o)) c.1 in
    omega (arith, sums_up, own_is)
