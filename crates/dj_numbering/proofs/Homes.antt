-- The class whose members those of a class or an array are.
use Rattle.std.proofs.Common.{◌≡◌, ℕ, ◌-◌, ◌<◌, ◌≤◌, Bool, false, List, [], ◌∷◌, length, nat_eq, Option, Some, None, refl, sym, ap, ◌∙◌, arith, if◌then◌else◌}
use Rattle.std.specs.Prelude.{slice_get, unwrap_or, option_and_then, nat_le, IsTrue}
use Rattle.std.specs.Option.{option_map}
use Rattle.std.specs.List.{flat_map}
use Rattle.std.proofs.lemmas.Bool.{and_parts}
use Rattle.std.proofs.lemmas.Bool.Decides.{nat_tests}
use Rattle.std.proofs.lemmas.Option.{none-some}
use Rattle.dj_names.specs.declared.descriptor.Ty.{Ty}
use Rattle.dj_names.specs.trusted.Types.{Name}
use Rattle.dj_model.specs.trusted.Types.{Prefix, object_name}
use Rattle.dj_model.specs.trusted.Program.{Program, Class, class_at, flags_of, is_interface}
use Rattle.dj_model.specs.trusted.Linking.{FoundMethod, most_classes, chain, interfaces_above, first_method, first_field, field_order, any_method, is_plain, method_chain, or_else, member_class, class_or_object, resolve_method, resolve_field, select, special_method}
use Rattle.dj_declarations.specs.trusted.Files.{desc_in}
use Rattle.dj_class_table.specs.Tables.{class_number, class_numbers}
use Rattle.dj_class_table.proofs.Numbered.{name_at-number}
use Rattle.dj_resolution.specs.Linked.{class_name, resolved_method, resolved_field}
use Rattle.dj_resolution.specs.Numbers.{numbers_up, numbers_above, first_some, method_found, field_found}
use Rattle.dj_resolution.proofs.Resolution.{DoNamesDiffer, number_of_name}
use Rattle.dj_resolution.proofs.Walks.{Missing, There, looked, no_numbers_up, numbers_of_chain, numbers_of_all, numbers_of_order, first_method_found, first_field_found}
use Rattle.dj_numbering.specs.Typed.{Typed, AreArrays, types_of, type_at, is_array_of}
use Rattle.dj_numbering.specs.Members as members
use Rattle.dj_numbering.proofs.Starts.{some_there}
use Rattle.dj_numbering.proofs.Reported.{IsArray, array_there, type_there, type_of_class, known_at}

-- ---- by numbers

pub home_of_class : (typed : Typed) (class : ℕ) → DoNamesDiffer typed.program → class < length typed.program → Some class ≡ class_number typed.program (member_class typed.prefix (type_at typed class))
home_of_class typed class differ lt =
    sym (ap (λ (ty : Ty). class_number typed.program (member_class typed.prefix ty)) (type_of_class typed.program typed.arrays class lt) ∙ number_of_name typed.program class differ lt)

one_at_least : (dims : ℕ) → IsTrue (nat_le 1 dims) → nat_eq dims 0 ≡ false
one_at_least dims le = grind (arith, nat_tests)

home_of_type : (program : Program) (prefix : Prefix) (ty : Ty) → IsTrue (is_array_of program ty) → member_class prefix ty ≡ object_name prefix
home_of_type program prefix ty array =
    ap (λ (b : Bool). if b then class_or_object prefix ty.of else object_name prefix) (one_at_least ty.dims ((and_parts (nat_le 1 ty.dims) _ array).0))

pub home_of_array : (typed : Typed) (class count : ℕ) (object : Option ℕ) → AreArrays typed.program typed.arrays → count ≡ length typed.program → class < length (types_of typed) → count ≤ class
    → object ≡ class_number typed.program (object_name typed.prefix) → object ≡ class_number typed.program (member_class typed.prefix (type_at typed class))
home_of_array typed class count object arrays is lt le reported =
    let array : IsArray typed class (class - count) = array_there typed class count (class - count) is lt le refl in
    let ty : (ty : Ty) × (slice_get typed.arrays (class - count) ≡ Some ty) = some_there typed.arrays (class - count) array.within in
    let known : IsTrue (is_array_of typed.program ty.0) = known_at typed.program typed.arrays arrays.each (class - count) ty.0 ty.1 in
    reported ∙ ap (class_number typed.program) (sym (ap (member_class typed.prefix) (type_there typed class (class - count) ty.0 array ty.1) ∙ home_of_type typed.program typed.prefix ty.0 known))

-- ---- resolution in a class that is there

named : (program : Program) (home : Name) (k : ℕ) → class_number program home ≡ Some k → class_name program k ≡ home
named program home k is = ap (λ (o : Option Name). unwrap_or o []) (name_at-number program home k is)

pub method_resolved_in : (typed : Typed) (class k : ℕ) (name : Name) (desc : List ℕ) → Some k ≡ class_number typed.program (member_class typed.prefix (type_at typed class))
    → resolved_method (record { program = typed.program; prefix = typed.prefix }) k name desc ≡ members.resolved_method typed class name desc
unfolding resolve_method
method_resolved_in typed class k name desc is =
    let program : Program = typed.program in
    ap (λ (home : Name). or_else (first_method program any_method name (desc_in desc) (method_chain program typed.prefix home)) (first_method program is_plain name (desc_in desc) (interfaces_above program home)))
    (named program (member_class typed.prefix (type_at typed class)) k (sym is))

pub field_resolved_in : (typed : Typed) (class k : ℕ) (name : Name) (desc : List ℕ) → Some k ≡ class_number typed.program (member_class typed.prefix (type_at typed class))
    → resolved_field (record { program = typed.program; prefix = typed.prefix }) k name desc ≡ members.resolved_field typed class name desc
unfolding resolve_field
field_resolved_in typed class k name desc is =
    let program : Program = typed.program in
    ap (λ (home : Name). first_field program name (desc_in desc) (field_order most_classes program home)) (named program (member_class typed.prefix (type_at typed class)) k (sym is))

-- ---- and in one that isn't

abbrev no_flags : Option Class → Bool
no_flags o = is_interface (flags_of o)

missing : (program : Program) (home : Name) → class_number program home ≡ None → class_at program home ≡ None
missing program home none = elim (looked program home) [
  | Missing number class ↦ class
  | There k c number at class named lt ↦ absurd (none-some k (sym none ∙ number))
]

chain_missing : (program : Program) (home : Name) → class_number program home ≡ None → class_numbers program (chain program home) ≡ []
chain_missing program home none = numbers_of_chain most_classes program (Some home) ∙ ap (numbers_up most_classes program) none ∙ no_numbers_up most_classes program

method_chain_missing : (program : Program) (prefix : Prefix) (home : Name) → class_number program home ≡ None → class_numbers program (method_chain program prefix home) ≡ []
method_chain_missing program prefix home none =
    ap (λ (o : Option Class). class_numbers program (if no_flags o then home ∷ object_name prefix ∷ [] else chain program home)) (missing program home none) ∙ chain_missing program home none

pub no_method_resolved : (typed : Typed) (class : ℕ) (name : Name) (desc : List ℕ) → None ≡ class_number typed.program (member_class typed.prefix (type_at typed class)) → members.resolved_method typed class name desc ≡ None
unfolding resolve_method interfaces_above
no_method_resolved typed class name desc none =
    let program : Program = typed.program in
    let home : Name = member_class typed.prefix (type_at typed class) in
    ap (λ (o : Option FoundMethod). or_else o (first_method program is_plain name (desc_in desc) (interfaces_above program home)))
    (first_method_found program any_method name (desc_in desc) (method_chain program typed.prefix home)
    ∙ ap (first_some (method_found program any_method name (desc_in desc))) (method_chain_missing program typed.prefix home (sym none)))
    ∙ first_method_found program is_plain name (desc_in desc) (interfaces_above program home)
    ∙ ap (first_some (method_found program is_plain name (desc_in desc)))
    (numbers_of_all program (chain program home) ∙ ap (flat_map (numbers_above program)) (chain_missing program home (sym none)))

pub no_field_resolved : (typed : Typed) (class : ℕ) (name : Name) (desc : List ℕ) → None ≡ class_number typed.program (member_class typed.prefix (type_at typed class)) → members.resolved_field typed class name desc ≡ None
unfolding resolve_field
no_field_resolved typed class name desc none =
    let program : Program = typed.program in
    let home : Name = member_class typed.prefix (type_at typed class) in
    first_field_found program name (desc_in desc) (field_order most_classes program home)
    ∙ ap (first_some (field_found program name (desc_in desc)))
    (numbers_of_order most_classes program home
    ∙ ap (λ (o : Option ℕ). flat_map (λ k. k ∷ numbers_above program k) (numbers_up most_classes program o)) (sym none)
    ∙ ap (flat_map (λ k. k ∷ numbers_above program k)) (no_numbers_up most_classes program))

-- ---- selection

pub selected_reported : (typed : Typed) (number class : ℕ) (found : FoundMethod) (t : Option (Option FoundMethod)) → slice_get (members.all_methods typed.program) number ≡ Some found
    → t ≡ option_map Some (select typed.program typed.prefix found (type_at typed class)) → t ≡ option_map Some (members.selected typed number class)
selected_reported typed number class found t at reported =
    reported ∙ ap (λ (o : Option FoundMethod). option_map Some (option_and_then (λ (f : FoundMethod). select typed.program typed.prefix f (type_at typed class)) o)) (sym at)

pub special_reported : (typed : Typed) (number class : ℕ) (found : FoundMethod) (t : Option (Option FoundMethod)) → slice_get (members.all_methods typed.program) number ≡ Some found
    → t ≡ option_map Some (special_method typed.program (class_name typed.program class) found) → t ≡ option_map Some (members.special_of typed number class)
special_reported typed number class found t at reported =
    reported ∙ ap (λ (o : Option FoundMethod). option_map Some (option_and_then (special_method typed.program (class_name typed.program class)) o)) (sym at)
