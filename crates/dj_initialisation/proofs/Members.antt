-- Fields and methods of classes by their numbers.
use Rattle.std.proofs.Common.{◌≡◌, ℕ, ◌+◌, ◌<◌, ◌≤◌, map, length, Some, ◌∙◌, arith}
use Rattle.std.specs.Prelude.{slice_get, IfOk, Result, Ok, Err}
use Rattle.std.specs.Option.{option_map}
use Rattle.std.proofs.lemmas.List.{length-map, length-append}
use Rattle.std.proofs.lemmas.Option.{slice_get-map}
use Rattle.dj_model.specs.trusted.Program.{Program, Class, Method, Field}
use Rattle.dj_names.specs.trusted.Types.{class_type}
use Rattle.dj_model.specs.trusted.Linking.{FoundMethod, FoundField}
use Rattle.dj_class_table.specs.Tables.{name_of}
use Rattle.dj_numbering.specs.Typed.{Typed, types_of}
use Rattle.dj_numbering.specs.Members.{all_methods, all_fields, methods_in, fields_in, methods_before, fields_before}
use Rattle.dj_numbering.proofs.Starts.{before_count, member_of_number}

abbrev pub found_field : Class → Field → FoundField
found_field c f = record { class = c.name; field = f }

abbrev pub found_method : Class → Method → FoundMethod
found_method c m = record { class = c.name; method = m }

-- the field at a place of a class is the one of its number
pub field_of_number : (program : Program) (k at : ℕ) (c : Class) → slice_get program k ≡ Some c → at < length c.fields
    → slice_get (all_fields program) (fields_before program k + at) ≡ option_map (found_field c) (slice_get c.fields at)
unfolding all_fields
field_of_number program k at c is lt =
    let long = length-map c.fields (found_field c) in
    member_of_number fields_in program k at (fields_before program k + at) c is (omega (arith, long, lt)) (let e = before_count fields_in program k in omega (arith, e))
    ∙ slice_get-map (found_field c) c.fields at

pub method_of_number : (program : Program) (k at : ℕ) (c : Class) → slice_get program k ≡ Some c → at < length c.methods
    → slice_get (all_methods program) (methods_before program k + at) ≡ option_map (found_method c) (slice_get c.methods at)
unfolding all_methods
method_of_number program k at c is lt =
    let long = length-map c.methods (found_method c) in
    member_of_number methods_in program k at (methods_before program k + at) c is (omega (arith, long, lt)) (let e = before_count methods_in program k in omega (arith, e))
    ∙ slice_get-map (found_method c) c.methods at

-- the classes are among those that have numbers
pub types_longer : (typed : Typed) → length typed.program ≤ length (types_of typed)
types_longer typed =
    let classes = length-map typed.program (λ (c : Class). class_type (name_of c)) in
    let all = length-append (map (λ (c : Class). class_type (name_of c)) typed.program) typed.arrays in
    omega (arith, classes, all)

-- ---- what holds where it went well

pub if_ok_map : {A E : Type 0} (r : Result A E) (P Q : A → Type 0) → ((x : A) → P x → Q x) → IfOk r P → IfOk r Q
if_ok_map (Ok x) P Q f p = f x p
if_ok_map (Err e) P Q f p = tt
