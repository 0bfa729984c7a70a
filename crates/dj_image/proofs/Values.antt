-- The texts with which fields of a program begin are those of the values of its classes; and the texts that have numbers.
use Rattle.std.proofs.Common.{◌≡◌, ◌↔◌, ℕ, ◌⊎◌, List, [], ◌∷◌, map, length, Option, Some, None, ap, subst, ◌∙◌, inl, inr, arith, Contains}
use Rattle.std.specs.Option.{option_map}
use Rattle.std.proofs.lemmas.List.Elements.{Contains-append_left, Contains-append_right, Contains-append_cases}
use Rattle.dj_pool.specs.trusted.Pool.{Constant}
use Rattle.dj_model.specs.trusted.Program as programs
use Rattle.dj_model.specs.trusted.Program.{Program, Class, Field}
use Rattle.dj_declarations.specs.trusted.Files.{name_in}
use Rattle.dj_program.specs.trusted.Naming.{units_in}
use Rattle.dj_image.specs.declared.parts.ClassParts.{ClassParts}
use Rattle.dj_image.specs.declared.parts.FieldValue.{FieldValue}
use Rattle.dj_image.specs.declared.parts.FieldValue.TheVariants as values
use Rattle.dj_image.specs.Sources.{with_values, class_of_source, program_of_sources}
use Rattle.dj_image.specs.Parts.{constant_of_value, source_of, sources_of, FitClasses}
use Rattle.dj_image.specs.Imaged.{IsPushed, IsValue}
use Rattle.dj_image.specs.Texts.{value_text, value_texts, class_texts, texts_in, texts_of}
use Rattle.dj_image.proofs.Members.{member_first, member_later, member_none, member_cases, member_of_filter_map, member_filter_map, member_of_flat_map, member_flat_map}
use Rattle.dj_image.proofs.Programs.{beside, class_beside}
use Rattle.dj_image.proofs.Pushes.{pushed_are}

module _ (pool : List Constant) where
  abbrev valued : List Field → List (Option FieldValue) → List Field
  valued fields values = with_values fields (map (option_map (constant_of_value pool)) values)

  value_is : (value : Option FieldValue) (text : List ℕ) → option_map (constant_of_value pool) value ≡ Some (programs.Text text) → value_text pool value ≡ Some text
  value_is None text e = absurd cc
  value_is (Some (values.Int z)) text e = absurd cc
  value_is (Some (values.Long z)) text e = absurd cc
  value_is (Some values.Unfit) text e = absurd cc
  value_is (Some (values.Text index)) text e = let same : units_in (name_in pool index) ≡ text = cc in ap Some same

  is_value : (value : Option FieldValue) (text : List ℕ) → value_text pool value ≡ Some text → option_map (constant_of_value pool) value ≡ Some (programs.Text text)
  is_value None text e = absurd cc
  is_value (Some (values.Int z)) text e = absurd cc
  is_value (Some (values.Long z)) text e = absurd cc
  is_value (Some values.Unfit) text e = absurd cc
  is_value (Some (values.Text index)) text e = let same : units_in (name_in pool index) ≡ text = cc in ap (λ (u : List ℕ). Some (programs.Text u)) same

  value_of_field : (fields : List Field) (vs : List (Option FieldValue)) → length vs ≡ length fields → (f : Field) (text : List ℕ) → Contains (valued fields vs) f → f.constant ≡ Some (programs.Text text)
      → (v : Option FieldValue) × Contains vs v × (value_text pool v ≡ Some text)
  value_of_field [] [] count f text m e = absurd (member_none f m)
  value_of_field [] (v ∷ vs) count f text m e = absurd (omega (arith, count))
  value_of_field (d ∷ fields) [] count f text m e = absurd (omega (arith, count))
  value_of_field (d ∷ fields) (v ∷ vs) count f text m e = elim (member_cases (record d { constant = option_map (constant_of_value pool) v }) (valued fields vs) f m) [
    | inl same ↦ (v, member_first v vs, value_is v text (ap (λ (x : Field). x.constant) same ∙ e))
    | inr later ↦ let found = value_of_field fields vs (omega (arith, count)) f text later e in (found.0, member_later v vs found.0 found.1, found.2)
  ]

  field_of_value : (fields : List Field) (vs : List (Option FieldValue)) → length vs ≡ length fields → (v : Option FieldValue) (text : List ℕ) → Contains vs v → value_text pool v ≡ Some text
      → (f : Field) × Contains (valued fields vs) f × (f.constant ≡ Some (programs.Text text))
  field_of_value [] [] count v text m e = absurd (member_none v m)
  field_of_value [] (w ∷ vs) count v text m e = absurd (omega (arith, count))
  field_of_value (d ∷ fields) [] count v text m e = absurd (omega (arith, count))
  field_of_value (d ∷ fields) (w ∷ vs) count v text m e = elim (member_cases w vs v m) [
    | inl same ↦ (
      record d { constant = option_map (constant_of_value pool) w },
      member_first (record d { constant = option_map (constant_of_value pool) w }) (valued fields vs),
      is_value w text (ap (value_text pool) same ∙ e),
    )
    | inr later ↦ let found = field_of_value fields vs (omega (arith, count)) v text later e in
        (found.0, member_later (record d { constant = option_map (constant_of_value pool) w }) (valued fields vs) found.0 found.1, found.2)
  ]

-- a field of a class begins with the text
abbrev ValueIn : List ClassParts → List ℕ → Type 0
ValueIn parts text = (p : ClassParts) × Contains parts p × Contains (value_texts p.pool p.values.items) text

values_are : (program : Program) (parts : List ClassParts) → FitClasses program parts → (text : List ℕ) → ValueIn parts text ↔ IsValue (program_of_sources (sources_of program parts)) text
unfolding class_of_source
values_are program parts fit text = (to, from) where
  to : ValueIn parts text → IsValue (program_of_sources (sources_of program parts)) text
  to (p, there, m) =
      let v = member_of_filter_map (value_text p.pool) p.values.items text m in
      let c = class_beside program parts fit p there in
      let f = field_of_value p.pool c.declared.fields p.values.items c.fit.fields v.0 text v.1 v.2 in
      record { class = class_of_source (source_of c.declared p); there = c.there; field = f.0; own = f.1; begins = f.2 }

  from : IsValue (program_of_sources (sources_of program parts)) text → ValueIn parts text
  from v =
      let b = beside program parts fit v.class v.there in
      let f = value_of_field b.own.pool b.declared.fields b.own.values.items b.fit.fields v.field text (subst (λ (c : Class). Contains c.fields v.field) b.is v.own) v.begins in
      (b.own, b.there, member_filter_map (value_text b.own.pool) b.own.values.items f.0 text f.1 f.2)

-- the texts that have numbers
pub texts_are : (program : Program) (parts : List ClassParts) → FitClasses program parts → (text : List ℕ)
    → Contains (texts_of parts) text ↔ (IsPushed (program_of_sources (sources_of program parts)) text ⊎ IsValue (program_of_sources (sources_of program parts)) text)
texts_are program parts fit text = (to, from) where
  to : Contains (texts_of parts) text → IsPushed (program_of_sources (sources_of program parts)) text ⊎ IsValue (program_of_sources (sources_of program parts)) text
  to m =
      let p = member_of_flat_map texts_in parts text m in
      elim (Contains-append_cases (class_texts p.0) (value_texts p.0.pool p.0.values.items) text p.2) [
        | inl push ↦ inl ((pushed_are program parts fit text).0 (p.0, p.1, push))
        | inr value ↦ inr ((values_are program parts fit text).0 (p.0, p.1, value))
      ]

  from : IsPushed (program_of_sources (sources_of program parts)) text ⊎ IsValue (program_of_sources (sources_of program parts)) text → Contains (texts_of parts) text
  from (inl push) =
      let p = (pushed_are program parts fit text).1 push in
      member_flat_map texts_in parts p.0 text p.1 (Contains-append_left (class_texts p.0) (value_texts p.0.pool p.0.values.items) text p.2)
  from (inr value) =
      let p = (values_are program parts fit text).1 value in
      member_flat_map texts_in parts p.0 text p.1 (Contains-append_right (class_texts p.0) (value_texts p.0.pool p.0.values.items) text p.2)
