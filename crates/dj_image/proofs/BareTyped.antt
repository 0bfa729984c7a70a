-- What is known of classes, arrays and members by numbers is the same in a program without code and constants.
use Rattle.std.proofs.Common.{◌≡◌, ℕ, ◌+◌, List, [], ◌∷◌, ◌++◌, map, take, length, Option, Some, None, refl, ap, ◌∙◌}
use Rattle.std.specs.Prelude.{slice_get, option_and_then, unwrap_or}
use Rattle.std.specs.Option.{option_map}
use Rattle.std.specs.List.{flat_map, list_all}
use Rattle.std.proofs.lemmas.List.{map-append, length-map, take-map}
use Rattle.std.proofs.lemmas.Option.{slice_get-map}
use Rattle.dj_names.specs.declared.descriptor.Of.{Of}
use Rattle.dj_names.specs.declared.descriptor.Of.TheVariants as ofs
use Rattle.dj_names.specs.declared.descriptor.Ty.{Ty}
use Rattle.dj_names.specs.trusted.Types.{Name, class_type}
use Rattle.dj_names.specs.trusted.Descriptors.{type_text}
use Rattle.dj_names.specs.trusted.Library.{stop_class}
use Rattle.dj_model.specs.trusted.Types.{Prefix, string_name}
use Rattle.dj_model.specs.trusted.Program.{Program, Class, Method, Field, Body, Abstract, Native, Runs, flags_of, superclass_of, interfaces_of, fields_of}
use Rattle.dj_model.specs.trusted.Linking.{FoundMethod, FoundField, resolve_method, resolve_field, select, special_method, is_subtype, field_count, place_of}
use Rattle.dj_declarations.specs.Files.{bare_method, bare_field, bare_class}
use Rattle.dj_class_table.specs.Tables.{name_of, name_at, class_number, class_numbers, methods_of, methods_at, fields_at}
use Rattle.dj_numbering.specs.Links.{class_name}
use Rattle.dj_numbering.specs.Typed.{Typed, texts_of, types_of, text_number, type_at, flags_at, super_at, interfaces_at, component_at, is_subtype_at, string_at, chars_at, stop_under, stop_at, is_known_of, is_array_of}
use Rattle.dj_numbering.specs.Members.{methods_in, fields_in, all_methods, all_fields, member_at, resolved_method, resolved_field, selected, special_of, method_number, field_number, found_method_number, found_field_number, methods_before, fields_before, native_of, native_at}
use Rattle.dj_image.proofs.Bare.{bare_program, bare_found, bare_found_field, superclass_bare, interfaces_bare, flags_bare, subtype_bare, resolve_method_bare, resolve_field_bare, select_bare, special_bare, field_count_bare, place_of_bare}

-- ---- classes

names_bare : (program : Program) → map name_of (bare_program program) ≡ map name_of program
names_bare [] = refl
names_bare (c ∷ classes) = ap (λ (names : List Name). c.name ∷ names) (names_bare classes)

class_types_bare : (program : Program) → map (λ c. class_type (name_of c)) (bare_program program) ≡ map (λ c. class_type (name_of c)) program
class_types_bare [] = refl
class_types_bare (c ∷ classes) = ap (λ (types : List Ty). class_type c.name ∷ types) (class_types_bare classes)

pub number_bare : (program : Program) (name : Name) → class_number (bare_program program) name ≡ class_number program name
number_bare [] name = refl
number_bare (c ∷ classes) name = rw (number_bare classes name) refl

numbers_bare : (program : Program) (names : List Name) → class_numbers (bare_program program) names ≡ class_numbers program names
numbers_bare program [] = refl
numbers_bare program (name ∷ names) = rw (number_bare program name, numbers_bare program names) refl

number_by_bare : (program : Program) (name : Option Name) → option_and_then (class_number (bare_program program)) name ≡ option_and_then (class_number program) name
number_by_bare program None = refl
number_by_bare program (Some name) = number_bare program name

pub class_there_bare : (program : Program) (class : ℕ) → slice_get (bare_program program) class ≡ option_map bare_class (slice_get program class)
class_there_bare program class = slice_get-map bare_class program class

name_in_bare : (c : Option Class) → option_map name_of (option_map bare_class c) ≡ option_map name_of c
name_in_bare None = refl
name_in_bare (Some c) = refl

pub name_at_bare : (program : Program) (class : ℕ) → name_at (bare_program program) class ≡ name_at program class
name_at_bare program class = ap (option_map name_of) (class_there_bare program class) ∙ name_in_bare (slice_get program class)

methods_of_bare : (c : Option Class) → methods_of (option_map bare_class c) ≡ map bare_method (methods_of c)
methods_of_bare None = refl
methods_of_bare (Some c) = refl

fields_of_bare : (c : Option Class) → fields_of (option_map bare_class c) ≡ map bare_field (fields_of c)
fields_of_bare None = refl
fields_of_bare (Some c) = refl

pub methods_at_bare : (program : Program) (class : ℕ) → length (methods_at (bare_program program) class) ≡ length (methods_at program class)
methods_at_bare program class =
    ap (λ (c : Option Class). length (methods_of c)) (class_there_bare program class)
    ∙ ap (length {A = Method}) (methods_of_bare (slice_get program class))
    ∙ length-map (methods_at program class) bare_method

pub fields_at_bare : (program : Program) (class : ℕ) → length (fields_at (bare_program program) class) ≡ length (fields_at program class)
fields_at_bare program class =
    ap (λ (c : Option Class). length (fields_of c)) (class_there_bare program class)
    ∙ ap (length {A = Field}) (fields_of_bare (slice_get program class))
    ∙ length-map (fields_at program class) bare_field

-- ---- members

methods_found_bare : (class : Name) (methods : List Method)
    → map (λ (m : Method). record { class = class; method = m }) (map bare_method methods)
    ≡ map bare_found (map (λ (m : Method). record { class = class; method = m }) methods)
methods_found_bare class [] = refl
methods_found_bare class (m ∷ methods) =
    ap (λ (rest : List FoundMethod). record { class = class; method = bare_method m } ∷ rest) (methods_found_bare class methods)

fields_found_bare : (class : Name) (fields : List Field)
    → map (λ (f : Field). record { class = class; field = f }) (map bare_field fields)
    ≡ map bare_found_field (map (λ (f : Field). record { class = class; field = f }) fields)
fields_found_bare class [] = refl
fields_found_bare class (f ∷ fields) =
    ap (λ (rest : List FoundField). record { class = class; field = bare_field f } ∷ rest) (fields_found_bare class fields)

pub all_methods_bare : (program : Program) → all_methods (bare_program program) ≡ map bare_found (all_methods program)
unfolding all_methods
all_methods_bare [] = refl
all_methods_bare (c ∷ classes) =
    rw (map-append bare_found (methods_in c) (flat_map methods_in classes), methods_found_bare c.name c.methods, all_methods_bare classes) refl

pub all_fields_bare : (program : Program) → all_fields (bare_program program) ≡ map bare_found_field (all_fields program)
unfolding all_fields
all_fields_bare [] = refl
all_fields_bare (c ∷ classes) =
    rw (map-append bare_found_field (fields_in c) (flat_map fields_in classes), fields_found_bare c.name c.fields, all_fields_bare classes) refl

pub method_count_bare : (program : Program) → length (all_methods (bare_program program)) ≡ length (all_methods program)
method_count_bare program = ap (length {A = FoundMethod}) (all_methods_bare program) ∙ length-map (all_methods program) bare_found

pub field_count_all_bare : (program : Program) → length (all_fields (bare_program program)) ≡ length (all_fields program)
field_count_all_bare program = ap (length {A = FoundField}) (all_fields_bare program) ∙ length-map (all_fields program) bare_found_field

pub method_there_bare : (program : Program) (number : ℕ) → slice_get (all_methods (bare_program program)) number ≡ option_map bare_found (slice_get (all_methods program) number)
method_there_bare program number =
    ap (λ (all : List FoundMethod). slice_get all number) (all_methods_bare program) ∙ slice_get-map bare_found (all_methods program) number

pub field_there_bare : (program : Program) (number : ℕ) → slice_get (all_fields (bare_program program)) number ≡ option_map bare_found_field (slice_get (all_fields program) number)
field_there_bare program number =
    ap (λ (all : List FoundField). slice_get all number) (all_fields_bare program) ∙ slice_get-map bare_found_field (all_fields program) number

pub methods_before_bare : (program : Program) (class : ℕ) → methods_before (bare_program program) class ≡ methods_before program class
methods_before_bare program class =
    ap (λ (p : Program). length (all_methods p)) (take-map bare_class class program) ∙ method_count_bare (take class program)

pub fields_before_bare : (program : Program) (class : ℕ) → fields_before (bare_program program) class ≡ fields_before program class
fields_before_bare program class =
    ap (λ (p : Program). length (all_fields p)) (take-map bare_class class program) ∙ field_count_all_bare (take class program)

-- ---- numbers of members that were found

method_number_bare : (all : List FoundMethod) (found : FoundMethod) → method_number (map bare_found all) (bare_found found) ≡ method_number all found
method_number_bare [] found = refl
method_number_bare (f ∷ all) found = rw (method_number_bare all found) refl

field_number_bare : (all : List FoundField) (found : FoundField) → field_number (map bare_found_field all) (bare_found_field found) ≡ field_number all found
field_number_bare [] found = refl
field_number_bare (f ∷ all) found = rw (field_number_bare all found) refl

pub found_method_bare : (program : Program) (found : Option FoundMethod)
    → found_method_number (bare_program program) (option_map bare_found found) ≡ found_method_number program found
found_method_bare program None = refl
found_method_bare program (Some found) =
    ap (λ (all : List FoundMethod). method_number all (bare_found found)) (all_methods_bare program) ∙ method_number_bare (all_methods program) found

pub found_field_bare : (program : Program) (found : Option FoundField)
    → found_field_number (bare_program program) (option_map bare_found_field found) ≡ found_field_number program found
found_field_bare program None = refl
found_field_bare program (Some found) =
    ap (λ (all : List FoundField). field_number all (bare_found_field found)) (all_fields_bare program) ∙ field_number_bare (all_fields program) found

native_in_bare : (found : Option FoundMethod) → option_and_then native_of (option_map bare_found found) ≡ option_and_then native_of found
native_in_bare None = refl
native_in_bare (Some found) = go found.method.body refl where
  go : (body : Body) → found.method.body ≡ body → native_of (bare_found found) ≡ native_of found
  go Abstract e = rw e refl
  go (Native id) e = rw e refl
  go (Runs code) e = rw e refl

pub native_at_bare : (program : Program) (number : ℕ) → native_at (bare_program program) number ≡ native_at program number
native_at_bare program number =
    ap (option_and_then native_of) (method_there_bare program number) ∙ native_in_bare (slice_get (all_methods program) number)

place_in_bare : (program : Program) (found : Option FoundField)
    → option_map (place_of (bare_program program)) (option_map bare_found_field found) ≡ option_map (place_of program) found
place_in_bare program None = refl
place_in_bare program (Some found) = ap Some (place_of_bare program found)

pub place_there_bare : (program : Program) (number : ℕ)
    → option_map (place_of (bare_program program)) (slice_get (all_fields (bare_program program)) number)
    ≡ option_map (place_of program) (slice_get (all_fields program) number)
place_there_bare program number =
    ap (option_map (place_of (bare_program program))) (field_there_bare program number) ∙ place_in_bare program (slice_get (all_fields program) number)

count_in_bare : (program : Program) (name : Option Name) → option_map (field_count (bare_program program)) name ≡ option_map (field_count program) name
count_in_bare program None = refl
count_in_bare program (Some name) = ap Some (field_count_bare program name)

pub count_there_bare : (program : Program) (class : ℕ)
    → option_map (field_count (bare_program program)) (name_at (bare_program program) class) ≡ option_map (field_count program) (name_at program class)
count_there_bare program class =
    ap (option_map (field_count (bare_program program))) (name_at_bare program class) ∙ count_in_bare program (name_at program class)

-- ---- classes and arrays

abbrev pub bare_typed : Typed → Typed
bare_typed typed = record { program = bare_program typed.program; prefix = typed.prefix; arrays = typed.arrays }

known_bare : (program : Program) (of : Of) → is_known_of (bare_program program) of ≡ is_known_of program of
known_bare program (ofs.Base base) = refl
known_bare program (ofs.Class name) = rw (number_bare program name) refl

pub each_bare : (program : Program) (arrays : List Ty) → list_all (is_array_of (bare_program program)) arrays ≡ list_all (is_array_of program) arrays
each_bare program [] = refl
each_bare program (ty ∷ arrays) = rw (known_bare program ty.of, each_bare program arrays) refl

stop_under_bare : (prefix : Prefix) (program : Program) → stop_under prefix (bare_program program) ≡ stop_under prefix program
stop_under_bare [] program = refl
stop_under_bare (c ∷ prefix) program = number_bare program stop_class

module _ (typed : Typed) where
  pub texts_bare : texts_of (bare_typed typed) ≡ texts_of typed
  texts_bare = ap (λ (names : List Name). names ++ map type_text typed.arrays) (names_bare typed.program)

  pub types_bare : types_of (bare_typed typed) ≡ types_of typed
  types_bare = ap (λ (types : List Ty). types ++ typed.arrays) (class_types_bare typed.program)

  pub text_number_bare : (text : Name) → text_number (bare_typed typed) text ≡ text_number typed text
  text_number_bare text = rw (names_bare typed.program) refl

  pub type_at_bare : (class : ℕ) → type_at (bare_typed typed) class ≡ type_at typed class
  type_at_bare class = rw (class_types_bare typed.program) refl

  pub flags_at_bare : (class : ℕ) → flags_at (bare_typed typed) class ≡ flags_at typed class
  flags_at_bare class = ap flags_of (class_there_bare typed.program class) ∙ flags_bare (slice_get typed.program class)

  pub super_at_bare : (class : ℕ) → super_at (bare_typed typed) class ≡ super_at typed class
  super_at_bare class =
      ap (λ (c : Option Class). option_and_then (class_number (bare_program typed.program)) (superclass_of c)) (class_there_bare typed.program class)
      ∙ ap (option_and_then (class_number (bare_program typed.program))) (superclass_bare (slice_get typed.program class))
      ∙ number_by_bare typed.program (superclass_of (slice_get typed.program class))

  pub interfaces_at_bare : (class : ℕ) → interfaces_at (bare_typed typed) class ≡ interfaces_at typed class
  interfaces_at_bare class =
      ap (λ (c : Option Class). class_numbers (bare_program typed.program) (interfaces_of c)) (class_there_bare typed.program class)
      ∙ ap (class_numbers (bare_program typed.program)) (interfaces_bare (slice_get typed.program class))
      ∙ numbers_bare typed.program (interfaces_of (slice_get typed.program class))

  pub component_at_bare : (class : ℕ) → component_at (bare_typed typed) class ≡ component_at typed class
  component_at_bare class = rw (class_types_bare typed.program, names_bare typed.program) refl

  pub is_subtype_at_bare : (a b : ℕ) → is_subtype_at (bare_typed typed) a b ≡ is_subtype_at typed a b
  is_subtype_at_bare a b =
      ap (λ (ty : Ty). is_subtype (bare_program typed.program) typed.prefix ty (type_at (bare_typed typed) b)) (type_at_bare a)
      ∙ ap (λ (ty : Ty). is_subtype (bare_program typed.program) typed.prefix (type_at typed a) ty) (type_at_bare b)
      ∙ subtype_bare typed.program typed.prefix (type_at typed a) (type_at typed b)

  pub string_at_bare : string_at (bare_typed typed) ≡ string_at typed
  string_at_bare = number_bare typed.program (string_name typed.prefix)

  pub chars_at_bare : chars_at (bare_typed typed) ≡ chars_at typed
  chars_at_bare = rw (names_bare typed.program) refl

  pub stop_at_bare : stop_at (bare_typed typed) ≡ stop_at typed
  stop_at_bare = stop_under_bare typed.prefix typed.program

  pub resolved_method_bare : (class : ℕ) (name : Name) (desc : List ℕ)
      → found_method_number (bare_program typed.program) (resolved_method (bare_typed typed) class name desc)
      ≡ found_method_number typed.program (resolved_method typed class name desc)
  resolved_method_bare class name desc =
      ap (λ (ty : Ty). found_method_number (bare_program typed.program)
      (resolve_method (bare_program typed.program) typed.prefix (record (member_at typed class name desc) { class = ty }))) (type_at_bare class)
      ∙ ap (found_method_number (bare_program typed.program)) (resolve_method_bare typed.program typed.prefix (member_at typed class name desc))
      ∙ found_method_bare typed.program (resolved_method typed class name desc)

  pub resolved_field_bare : (class : ℕ) (name : Name) (desc : List ℕ)
      → found_field_number (bare_program typed.program) (resolved_field (bare_typed typed) class name desc)
      ≡ found_field_number typed.program (resolved_field typed class name desc)
  resolved_field_bare class name desc =
      ap (λ (ty : Ty). found_field_number (bare_program typed.program)
      (resolve_field (bare_program typed.program) typed.prefix (record (member_at typed class name desc) { class = ty }))) (type_at_bare class)
      ∙ ap (found_field_number (bare_program typed.program)) (resolve_field_bare typed.program typed.prefix (member_at typed class name desc))
      ∙ found_field_bare typed.program (resolved_field typed class name desc)

  special_in_bare : (own : Name) (found : Option FoundMethod) → option_and_then (special_method (bare_program typed.program) own) (option_map bare_found found) ≡ option_map bare_found (option_and_then (special_method typed.program own) found)
  special_in_bare own None = refl
  special_in_bare own (Some found) = special_bare typed.program own found

  pub special_of_bare : (method class : ℕ) → found_method_number (bare_program typed.program) (special_of (bare_typed typed) method class) ≡ found_method_number typed.program (special_of typed method class)
  special_of_bare method class =
      ap (λ (name : Option Name). found_method_number (bare_program typed.program)
      (option_and_then (special_method (bare_program typed.program) (unwrap_or name [])) (slice_get (all_methods (bare_program typed.program)) method))) (name_at_bare typed.program class)
      ∙ ap (λ (found : Option FoundMethod). found_method_number (bare_program typed.program) (option_and_then (special_method (bare_program typed.program) (class_name typed.program class)) found)) (method_there_bare typed.program method)
      ∙ ap (found_method_number (bare_program typed.program)) (special_in_bare (class_name typed.program class) (slice_get (all_methods typed.program) method))
      ∙ found_method_bare typed.program (special_of typed method class)

  select_in_bare : (ty : Ty) (found : Option FoundMethod)
      → option_and_then (λ (f : FoundMethod). select (bare_program typed.program) typed.prefix f ty) (option_map bare_found found)
      ≡ option_map bare_found (option_and_then (λ (f : FoundMethod). select typed.program typed.prefix f ty) found)
  select_in_bare ty None = refl
  select_in_bare ty (Some found) = select_bare typed.program typed.prefix found ty

  pub selected_bare : (method class : ℕ)
      → found_method_number (bare_program typed.program) (selected (bare_typed typed) method class)
      ≡ found_method_number typed.program (selected typed method class)
  selected_bare method class =
      ap (λ (ty : Ty). found_method_number (bare_program typed.program)
      (option_and_then (λ (f : FoundMethod). select (bare_program typed.program) typed.prefix f ty) (slice_get (all_methods (bare_program typed.program)) method)))
      (type_at_bare class)
      ∙ ap (λ (found : Option FoundMethod). found_method_number (bare_program typed.program)
      (option_and_then (λ (f : FoundMethod). select (bare_program typed.program) typed.prefix f (type_at typed class)) found)) (method_there_bare typed.program method)
      ∙ ap (found_method_number (bare_program typed.program)) (select_in_bare (type_at typed class) (slice_get (all_methods typed.program) method))
      ∙ found_method_bare typed.program (selected typed method class)
