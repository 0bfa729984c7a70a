-- What no class declares resolves nowhere.
use Rattle.std.proofs.Common.{◌≡◌, ◌<◌, ℕ, Bool, true, false, List, [], ◌∷◌, ◌+◌, length, Option, Some, None, slice_get, refl, ap, ◌∙◌}
use Rattle.std.specs.Prelude.{if◌then◌else◌}
use Rattle.std.specs.Option.{option_map}
use Rattle.dj_names.specs.declared.descriptor.Desc.{Desc}
use Rattle.dj_names.specs.trusted.Types.{Name}
use Rattle.dj_model.specs.trusted.Program.{Class, Method, Field, method_in, field_in, is_named, is_interface, fields_of, flags_of}
use Rattle.dj_model.specs.trusted.Types.{object_name}
use Rattle.dj_model.specs.trusted.Linking.{any_method, is_plain, most_classes, option_list, or_else, method_or, field_or}
use Rattle.dj_declarations.specs.trusted.Files.{desc_in}
use Rattle.dj_declarations.specs.Members.{method_place, field_place}
use Rattle.dj_class_table.specs.Tables.{class_number, methods_at, methods_of, fields_at}
use Rattle.dj_resolution.specs.Linked.{Linked, resolved_method, resolved_field}
use Rattle.dj_resolution.specs.Numbers.{first_some, method_in_class, field_in_class, method_found, field_found, numbers_above, numbers_up}
use Rattle.dj_resolution.proofs.Resolution.{DoNamesDiffer, method_resolved, field_resolved}

none_there : (b : Bool) (o : Option ℕ) → (if b then Some 0 else option_map (λ place. place + 1) o) ≡ None → (b ≡ false) × (o ≡ None)
none_there true o e = absurd cc
none_there false None e = (refl, refl)
none_there false (Some n) e = absurd cc

no_method_in : (methods : List Method) (name : Name) (desc : Desc) → method_place methods name desc ≡ None → method_in methods name desc ≡ None
no_method_in [] name desc e = refl
no_method_in (m ∷ methods) name desc e =
    let at = none_there (is_named name desc m.name m.desc) (method_place methods name desc) e in
    ap (λ (b : Bool). if b then Some m else method_in methods name desc) at.0 ∙ no_method_in methods name desc at.1

no_field_in : (fields : List Field) (name : Name) (desc : Desc) → field_place fields name desc ≡ None → field_in fields name desc ≡ None
no_field_in [] name desc e = refl
no_field_in (f ∷ fields) name desc e =
    let at = none_there (is_named name desc f.name f.desc) (field_place fields name desc) e in
    ap (λ (b : Bool). if b then Some f else field_in fields name desc) at.0 ∙ no_field_in fields name desc at.1

no_method_of : (class : Option Class) (test : Method → Bool) (name : Name) (desc : Desc) → method_place (methods_of class) name desc ≡ None → method_in_class test name desc class ≡ None
no_method_of None test name desc e = refl
no_method_of (Some c) test name desc e = ap (λ (o : Option Method). method_or c.name test o None) (no_method_in c.methods name desc e)

no_field_of : (class : Option Class) (name : Name) (desc : Desc) → field_place (fields_of class) name desc ≡ None → field_in_class name desc class ≡ None
no_field_of None name desc e = refl
no_field_of (Some c) name desc e = ap (λ (o : Option Field). field_or c.name o None) (no_field_in c.fields name desc e)

first_none : {A : Type 0} (f : ℕ → Option A) (xs : List ℕ) → ((k : ℕ) → f k ≡ None) → first_some f xs ≡ None
first_none f [] none = refl
first_none f (x ∷ xs) none = ap (λ o. or_else o (first_some f xs)) (none x) ∙ first_none f xs none

module _ (linked : Linked) (class : ℕ) (name : Name) (desc : List ℕ) (differ : DoNamesDiffer linked.program) (lt : class < length linked.program) where
  pub unresolved_method : ((k : ℕ) → method_place (methods_at linked.program k) name (desc_in desc) ≡ None) → resolved_method linked class name desc ≡ None
  unresolved_method none =
      let found = λ (test : Method → Bool) (k : ℕ). no_method_of (slice_get linked.program k) test name (desc_in desc) (none k) in
      let lists : List ℕ = if is_interface (flags_of (slice_get linked.program class)) then class ∷ option_list (class_number linked.program (object_name linked.prefix)) else numbers_up most_classes linked.program (Some class) in
      method_resolved linked class name desc differ lt
      ∙ ap (λ o. or_else o (first_some (λ k. first_some (method_found linked.program is_plain name (desc_in desc)) (numbers_above linked.program k)) (numbers_up most_classes linked.program (Some class))))
      (first_none (method_found linked.program any_method name (desc_in desc)) lists (found any_method))
      ∙ first_none (λ k. first_some (method_found linked.program is_plain name (desc_in desc)) (numbers_above linked.program k)) (numbers_up most_classes linked.program (Some class))
      (λ k. first_none (method_found linked.program is_plain name (desc_in desc)) (numbers_above linked.program k) (found is_plain))

  pub unresolved_field : ((k : ℕ) → field_place (fields_at linked.program k) name (desc_in desc) ≡ None) → resolved_field linked class name desc ≡ None
  unresolved_field none =
      field_resolved linked class name desc differ lt
      ∙ first_none (λ k. first_some (field_found linked.program name (desc_in desc)) (k ∷ numbers_above linked.program k)) (numbers_up most_classes linked.program (Some class))
      (λ k. first_none (field_found linked.program name (desc_in desc)) (k ∷ numbers_above linked.program k) (λ j. no_field_of (slice_get linked.program j) name (desc_in desc) (none j)))
