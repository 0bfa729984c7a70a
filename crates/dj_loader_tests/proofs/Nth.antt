-- A member at a place of a class has a number within the count of all.
use Rattle.std.proofs.Common.{◌≡◌, ℕ, zero, suc, ◌+◌, ◌<◌, Bool, true, false, List, [], ◌∷◌, ◌++◌, map, take, length, refl, sym, ap, ◌∙◌, arith, Option, Some, None, IfSome, subst}
use Rattle.std.specs.Prelude.{if◌then◌else◌, nat_lt, slice_get}
use Rattle.std.specs.Option.{option_map}
use Rattle.std.specs.List.{flat_map}
use Rattle.std.proofs.lemmas.Bool.Decides.{nat_tests}
use Rattle.std.proofs.lemmas.List.{length-map, length-append}
use Rattle.std.proofs.lemmas.Option.{none-some, same_Some}
use Rattle.dj_model.specs.trusted.Program.{Program, Class, Method, Field, fields_of}
use Rattle.dj_class_table.specs.Tables.{methods_of, methods_at, fields_at}
use Rattle.dj_numbering.specs.declared.types.MethodId.{MethodId}
use Rattle.dj_numbering.specs.declared.types.FieldId.{FieldId}
use Rattle.dj_numbering.specs.Members.{methods_in, fields_in, all_methods, all_fields, methods_before, fields_before, number_of_method, number_of_field}

module _ {A : Type 0} (items : Class → List A) where
  longer : (c : Class) (program : Program) → length (flat_map items (c ∷ program)) ≡ length (items c) + length (flat_map items program)
  longer c program = length-append (items c) (flat_map items program)

  place_within : (program : Program) (k at : ℕ) (c : Class) → slice_get program k ≡ Some c → at < length (items c) → length (flat_map items (take k program)) + at < length (flat_map items program)
  place_within [] k at c there less = absurd (none-some c there)
  place_within (x ∷ program) zero at c there less =
      let same : x ≡ c = same_Some x c there in
      let here : at < length (items x) = subst (λ (d : Class). at < length (items d)) (sym same) less in
      let all = longer x program in
      let none : length (flat_map items (take 0 (x ∷ program))) ≡ 0 = refl in
      omega (arith, here, all, none)
  place_within (x ∷ program) (suc k) at c there less =
      let later = place_within program k at c there less in
      let all = longer x program in
      let before = longer x (take k program) in
      omega (arith, later, all, before)

method_place : (program : Program) (class at : ℕ) → at < length (methods_at program class) → methods_before program class + at < length (all_methods program)
unfolding all_methods
method_place program class at less = by (slice_get program class) refl less where
  by : (o : Option Class) → slice_get program class ≡ o → at < length (methods_of o) → length (flat_map methods_in (take class program)) + at < length (flat_map methods_in program)
  by None there within = absurd (omega (arith, within))
  by (Some c) there within =
      let many : length (methods_in c) ≡ length c.methods = length-map c.methods (λ (m : Method). record { class = c.name; method = m }) in
      place_within methods_in program class at c there (omega (arith, within, many))

field_place : (program : Program) (class at : ℕ) → at < length (fields_at program class) → fields_before program class + at < length (all_fields program)
unfolding all_fields
field_place program class at less = by (slice_get program class) refl less where
  by : (o : Option Class) → slice_get program class ≡ o → at < length (fields_of o) → length (flat_map fields_in (take class program)) + at < length (flat_map fields_in program)
  by None there within = absurd (omega (arith, within))
  by (Some c) there within =
      let many : length (fields_in c) ≡ length c.fields = length-map c.fields (λ (f : Field). record { class = c.name; field = f }) in
      place_within fields_in program class at c there (omega (arith, within, many))

-- a number that is given where there is such a place
reported_within : (at count before all n : ℕ) → (at < count → before + at < all) → Some n ≡ (if nat_lt at count then Some (before + at) else None) → n < all
reported_within at count before all n within reported = by (nat_lt at count) refl reported where
  by : (b : Bool) → nat_lt at count ≡ b → Some n ≡ (if b then Some (before + at) else None) → n < all
  by true less same =
      let place : at < count = grind (arith, nat_tests) in
      let bound = within place in
      let is = same_Some n (before + at) same in
      omega (arith, bound, is)
  by false less none = absurd (none-some n (sym none))

pub nth_method : (program : Program) (class at : ℕ) (o : Option MethodId) → option_map number_of_method o ≡ (if nat_lt at (length (methods_at program class)) then Some (methods_before program class + at) else None)
    → IfSome o (λ (m : MethodId). m.number < length (all_methods program))
nth_method program class at None reported = tt
nth_method program class at (Some m) reported =
    reported_within at (length (methods_at program class)) (methods_before program class) (length (all_methods program)) m.number (method_place program class at) reported

pub nth_field : (program : Program) (class at : ℕ) (o : Option FieldId) → option_map number_of_field o ≡ (if nat_lt at (length (fields_at program class)) then Some (fields_before program class + at) else None)
    → IfSome o (λ (f : FieldId). f.number < length (all_fields program))
nth_field program class at None reported = tt
nth_field program class at (Some f) reported =
    reported_within at (length (fields_at program class)) (fields_before program class) (length (all_fields program)) f.number (field_place program class at) reported
