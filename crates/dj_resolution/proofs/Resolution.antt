-- Resolution by names is a search by numbers.
use Rattle.std.proofs.Common.{◌≡◌, ℕ, zero, suc, ◌<◌, List, [], ◌∷◌, length, Option, Some, None, slice_get, refl, sym, ◌∙◌, ap, subst, IfSome, inl, inr, arith, if◌then◌else◌, append-nil}
use Rattle.std.specs.Prelude.{unwrap_or}
use Rattle.std.specs.List.{flat_map}
use Rattle.std.specs.Option.{option_map}
use Rattle.std.proofs.lemmas.Option.{same_Some, none-some}
use Rattle.dj_names.specs.trusted.Types.{Name}
use Rattle.dj_model.specs.trusted.Types.{Prefix, object_name}
use Rattle.dj_model.specs.trusted.Program.{Program, Class, class_at, is_interface, flags_of}
use Rattle.dj_model.specs.trusted.Linking.{most_classes, option_list, chain, interfaces_above, first_method, field_order, FoundMethod, FoundField, any_method, is_plain, method_chain, or_else, resolve_method, resolve_field}
use Rattle.dj_model.proofs.MappedNames.{either}
use Rattle.dj_declarations.specs.trusted.Files.{desc_in}
use Rattle.dj_class_table.specs.Tables.{class_number, class_numbers, name_at}
use Rattle.dj_resolution.specs.Linked.{Linked, resolved_method, resolved_field}
use Rattle.dj_resolution.specs.Numbers.{numbers_above, numbers_up, first_some, method_found, field_found}
use Rattle.dj_resolution.proofs.Finding.{reported_first, reported_next, number_within}
use Rattle.dj_resolution.proofs.Searches.{first_some_flat}
use Rattle.dj_resolution.proofs.Walks.{Missing, There, looked, numbers_of_chain, numbers_of_all, numbers_of_order, first_method_found, first_field_found}

-- no two classes have one name
abbrev pub DoNamesDiffer : Program → Type 0
DoNamesDiffer program = (k : ℕ) (name : Name) → name_at program k ≡ Some name → class_number program name ≡ Some k

abbrev name_or : Program → ℕ → Name
name_or program class = unwrap_or (name_at program class) []

some_class : (program : Program) (class : ℕ) → class < length program → (c : Class) × (slice_get program class ≡ Some c)
some_class [] class lt = absurd (omega (arith, lt))
some_class (c ∷ program) zero lt = (c, refl)
some_class (c ∷ program) (suc class) lt = some_class program class (omega (arith, lt))

pub number_of_name : (program : Program) (class : ℕ) → DoNamesDiffer program → class < length program → class_number program (name_or program class) ≡ Some class
number_of_name program class differ lt =
    let there : (c : Class) × (slice_get program class ≡ Some c) = some_class program class lt in
    let named : name_at program class ≡ Some there.0.name = rw there.1 refl in
    ap (λ (name : Option Name). class_number program (unwrap_or name [])) named ∙ differ class there.0.name named

pub class_of_name : (program : Program) (class : ℕ) → DoNamesDiffer program → class < length program → class_at program (name_or program class) ≡ slice_get program class
class_of_name program class differ lt = elim (looked program (name_or program class)) [
  | Missing number c ↦ absurd (none-some class (sym number ∙ number_of_name program class differ lt))
  | There k c number at is named within ↦ is ∙ sym at ∙ ap (slice_get program) (same_Some k class (sym number ∙ number_of_name program class differ lt))
]

pub numbers_of_class : (program : Program) (class : ℕ) → DoNamesDiffer program → class < length program → class_numbers program (chain program (name_or program class)) ≡ numbers_up most_classes program (Some class)
numbers_of_class program class differ lt =
    numbers_of_chain most_classes program (Some (name_or program class)) ∙ ap (numbers_up most_classes program) (number_of_name program class differ lt)

method_numbers : (program : Program) (prefix : Prefix) (class : ℕ) → DoNamesDiffer program → class < length program
    → class_numbers program (method_chain program prefix (name_or program class))
    ≡ (if is_interface (flags_of (slice_get program class)) then class ∷ option_list (class_number program (object_name prefix)) else numbers_up most_classes program (Some class))
method_numbers program prefix class differ lt =
    rw (class_of_name program class differ lt) (elim (either (is_interface (flags_of (slice_get program class)))) [
      | inl e ↦ rw (e, number_of_name program class differ lt) (ap (λ (ks : List ℕ). class ∷ ks) (append-nil (option_list (class_number program (object_name prefix)))))
      | inr e ↦ rw e (numbers_of_class program class differ lt)
    ])

pub above_numbers : (program : Program) (class : ℕ) → DoNamesDiffer program → class < length program
    → class_numbers program (interfaces_above program (name_or program class)) ≡ flat_map (numbers_above program) (numbers_up most_classes program (Some class))
unfolding interfaces_above
above_numbers program class differ lt = numbers_of_all program (chain program (name_or program class)) ∙ ap (flat_map (numbers_above program)) (numbers_of_class program class differ lt)

pub method_resolved : (linked : Linked) (class : ℕ) (name : Name) (desc : List ℕ) → DoNamesDiffer linked.program → class < length linked.program
    → resolved_method linked class name desc
    ≡ or_else
    (first_some (method_found linked.program any_method name (desc_in desc))
    (if is_interface (flags_of (slice_get linked.program class)) then class ∷ option_list (class_number linked.program (object_name linked.prefix)) else numbers_up most_classes linked.program (Some class)))
    (first_some (λ k. first_some (method_found linked.program is_plain name (desc_in desc)) (numbers_above linked.program k)) (numbers_up most_classes linked.program (Some class)))
unfolding resolve_method
method_resolved linked class name desc differ lt =
    let own : Name = name_or linked.program class in
    let found : ℕ → Option FoundMethod = method_found linked.program any_method name (desc_in desc) in
    let plain : ℕ → Option FoundMethod = method_found linked.program is_plain name (desc_in desc) in
    ap (λ (o : Option FoundMethod). or_else o (first_method linked.program is_plain name (desc_in desc) (interfaces_above linked.program own)))
    (first_method_found linked.program any_method name (desc_in desc) (method_chain linked.program linked.prefix own) ∙ ap (first_some found) (method_numbers linked.program linked.prefix class differ lt))
    ∙ ap (or_else (first_some found (if is_interface (flags_of (slice_get linked.program class)) then class ∷ option_list (class_number linked.program (object_name linked.prefix)) else numbers_up most_classes linked.program (Some class))))
    (first_method_found linked.program is_plain name (desc_in desc) (interfaces_above linked.program own)
    ∙ ap (first_some plain) (above_numbers linked.program class differ lt)
    ∙ first_some_flat plain (numbers_above linked.program) (numbers_up most_classes linked.program (Some class)))

pub field_resolved : (linked : Linked) (class : ℕ) (name : Name) (desc : List ℕ) → DoNamesDiffer linked.program → class < length linked.program
    → resolved_field linked class name desc
    ≡ first_some (λ k. first_some (field_found linked.program name (desc_in desc)) (k ∷ numbers_above linked.program k)) (numbers_up most_classes linked.program (Some class))
unfolding resolve_field
field_resolved linked class name desc differ lt =
    let own : Name = name_or linked.program class in
    let found : ℕ → Option FoundField = field_found linked.program name (desc_in desc) in
    first_field_found linked.program name (desc_in desc) (field_order most_classes linked.program own)
    ∙ ap (first_some found) (numbers_of_order most_classes linked.program own
    ∙ ap (λ (o : Option ℕ). flat_map (λ k. k ∷ numbers_above linked.program k) (numbers_up most_classes linked.program o)) (number_of_name linked.program class differ lt))
    ∙ first_some_flat found (λ k. k ∷ numbers_above linked.program k) (numbers_up most_classes linked.program (Some class))

-- ---- what the code finds

pub method_here : (linked : Linked) (class : ℕ) (name : Name) (desc : List ℕ) (object : Option ℕ) (t : Option FoundMethod) → DoNamesDiffer linked.program → class < length linked.program
    → object ≡ class_number linked.program (object_name linked.prefix)
    → Some t ≡ option_map Some (first_some (method_found linked.program any_method name (desc_in desc))
    (if is_interface (flags_of (slice_get linked.program class)) then class ∷ option_list object else numbers_up most_classes linked.program (Some class)))
    → Some t ≡ option_map Some (resolved_method linked class name desc)
method_here linked class name desc object t differ lt is reported =
    let found : List ℕ → Option FoundMethod = first_some (method_found linked.program any_method name (desc_in desc)) in
    let plain : Option FoundMethod = first_some (λ k. first_some (method_found linked.program is_plain name (desc_in desc)) (numbers_above linked.program k)) (numbers_up most_classes linked.program (Some class)) in
    reported_first t (found (if is_interface (flags_of (slice_get linked.program class)) then class ∷ option_list (class_number linked.program (object_name linked.prefix)) else numbers_up most_classes linked.program (Some class))) plain
    (reported ∙ ap (λ (o : Option ℕ). option_map Some (found (if is_interface (flags_of (slice_get linked.program class)) then class ∷ option_list o else numbers_up most_classes linked.program (Some class)))) is)
    ∙ ap (option_map Some) (sym (method_resolved linked class name desc differ lt))

pub method_above : (linked : Linked) (class : ℕ) (name : Name) (desc : List ℕ) (object : Option ℕ) (t : Option (Option FoundMethod)) → DoNamesDiffer linked.program → class < length linked.program
    → object ≡ class_number linked.program (object_name linked.prefix)
    → None ≡ option_map Some (first_some (method_found linked.program any_method name (desc_in desc))
    (if is_interface (flags_of (slice_get linked.program class)) then class ∷ option_list object else numbers_up most_classes linked.program (Some class)))
    → t ≡ option_map Some (first_some (λ k. first_some (method_found linked.program is_plain name (desc_in desc)) (numbers_above linked.program k)) (numbers_up most_classes linked.program (Some class)))
    → t ≡ option_map Some (resolved_method linked class name desc)
method_above linked class name desc object t differ lt is none reported =
    let found : List ℕ → Option FoundMethod = first_some (method_found linked.program any_method name (desc_in desc)) in
    let plain : Option FoundMethod = first_some (λ k. first_some (method_found linked.program is_plain name (desc_in desc)) (numbers_above linked.program k)) (numbers_up most_classes linked.program (Some class)) in
    reported
    ∙ ap (option_map Some) (sym (reported_next
    (found (if is_interface (flags_of (slice_get linked.program class)) then class ∷ option_list (class_number linked.program (object_name linked.prefix)) else numbers_up most_classes linked.program (Some class))) plain
    (none ∙ ap (λ (o : Option ℕ). option_map Some (found (if is_interface (flags_of (slice_get linked.program class)) then class ∷ option_list o else numbers_up most_classes linked.program (Some class)))) is)))
    ∙ ap (option_map Some) (sym (method_resolved linked class name desc differ lt))

pub object_within : (program : Program) (name : Name) (object : Option ℕ) → object ≡ class_number program name → IfSome object (λ k. k < length program)
object_within program name object is = subst (λ (o : Option ℕ). IfSome o (λ k. k < length program)) (sym is) (number_within program name)
