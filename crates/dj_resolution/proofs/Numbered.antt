-- Members by their places, as a directory gives them.
use Rattle.std.proofs.Common.{◌≡◌, ℕ, ◌+◌, Bool, true, false, cond, List, [], ◌∷◌, Option, Some, None, slice_get, refl, sym, ap, ◌∙◌, add-one, if◌then◌else◌}
use Rattle.std.specs.Prelude.{option_and_then}
use Rattle.std.specs.Option.{option_map}
use Rattle.std.proofs.lemmas.Option.{same_Some, none-some}
use Rattle.dj_names.specs.declared.descriptor.Desc.{Desc}
use Rattle.dj_names.specs.trusted.Types.{Name}
use Rattle.dj_model.specs.trusted.Program.{Program, Class, Method, Field, fields_of, flags_of, method_in, field_in, is_interface, is_named}
use Rattle.dj_model.specs.trusted.Linking.{any_method, is_plain, method_or, field_or, most_classes, option_list}
use Rattle.dj_declarations.specs.Members.{method_place, field_place}
use Rattle.dj_class_table.specs.Tables.{methods_of, methods_at, fields_at, method_of_class, field_of_class}
use Rattle.dj_class_table.specs.declared.place.Place.{Place}
use Rattle.dj_resolution.specs.Numbers.{first_some, numbers_above, numbers_up, SaysMethod, SaysField, method_found, field_found, method_in_class, field_in_class}
use Rattle.dj_resolution.proofs.Finding.{reported_none}

abbrev later : ℕ → ℕ
later place = place + 1

step : {A : Type 0} (b : Bool) (x : A) (xs : List A) (first : Option ℕ) (rest : Option A) → option_map (slice_get xs) first ≡ option_map Some rest
    → option_map (slice_get (x ∷ xs)) (cond b (Some 0) (option_map later first)) ≡ option_map Some (cond b (Some x) rest)
step true x xs first rest e = refl
step false x xs None rest e = e
step false x xs (Some place) rest e = ap Some (rw add-one refl) ∙ e

method_placed : (methods : List Method) (name : Name) (desc : Desc) → option_map (slice_get methods) (method_place methods name desc) ≡ option_map Some (method_in methods name desc)
method_placed [] name desc = refl
method_placed (m ∷ methods) name desc = step (is_named name desc m.name m.desc) m methods (method_place methods name desc) (method_in methods name desc) (method_placed methods name desc)

field_placed : (fields : List Field) (name : Name) (desc : Desc) → option_map (slice_get fields) (field_place fields name desc) ≡ option_map Some (field_in fields name desc)
field_placed [] name desc = refl
field_placed (f ∷ fields) name desc = step (is_named name desc f.name f.desc) f fields (field_place fields name desc) (field_in fields name desc) (field_placed fields name desc)

pub method_found_at : (program : Program) (class : ℕ) (name : Name) (desc : Desc) (place : Option ℕ) → place ≡ method_place (methods_at program class) name desc
    → option_map (slice_get (methods_at program class)) place ≡ option_map Some (method_in (methods_at program class) name desc)
method_found_at program class name desc place is = ap (option_map (slice_get (methods_at program class))) is ∙ method_placed (methods_at program class) name desc

pub field_found_at : (program : Program) (class : ℕ) (name : Name) (desc : Desc) (place : Option ℕ) → place ≡ field_place (fields_at program class) name desc
    → option_map (slice_get (fields_at program class)) place ≡ option_map Some (field_in (fields_at program class) name desc)
field_found_at program class name desc place is = ap (option_map (slice_get (fields_at program class))) is ∙ field_placed (fields_at program class) name desc

-- ---- methods

reported_method : (o : Option Class) (member : ℕ) (name : Name) (desc : Desc) → Some (slice_get (methods_of o) member) ≡ option_map Some (method_in (methods_of o) name desc)
    → Some (option_and_then (method_of_class member) o) ≡ option_map Some (method_in_class any_method name desc o)
reported_method None member name desc reported = absurd (none-some (slice_get [] member) (sym reported))
reported_method (Some c) member name desc reported = by (slice_get c.methods member) (method_in c.methods name desc) reported where
  by : (there found : Option Method) → Some there ≡ option_map Some found → Some (option_map (λ m. record { class = c.name; method = m }) there) ≡ option_map Some (method_or c.name any_method found None)
  by there None reported = absurd (none-some there (sym reported))
  by there (Some m) reported = rw (same_Some there (Some m) reported) refl

pub method_reported : (program : Program) (class : ℕ) (name : Name) (desc : Desc) (member : ℕ) → Some member ≡ method_place (methods_at program class) name desc
    → SaysMethod program (Some (record { class = class; member = member })) (method_found program any_method name desc class)
method_reported program class name desc member is = reported_method (slice_get program class) member name desc (method_found_at program class name desc (Some member) is)

pub none_in_class : (test : Method → Bool) (o : Option Class) (name : Name) (desc : Desc) → method_in (methods_of o) name desc ≡ None → None ≡ option_map Some (method_in_class test name desc o)
none_in_class test None name desc none = refl
none_in_class test (Some c) name desc none = rw none refl

pub no_method : (program : Program) (class : ℕ) (name : Name) (desc : Desc) → None ≡ method_place (methods_at program class) name desc → method_in (methods_at program class) name desc ≡ None
no_method program class name desc is = reported_none (method_in (methods_at program class) name desc) (method_found_at program class name desc None is)

pub no_method_reported : (program : Program) (class : ℕ) (name : Name) (desc : Desc) → None ≡ method_place (methods_at program class) name desc → SaysMethod program None (method_found program any_method name desc class)
no_method_reported program class name desc is = none_in_class any_method (slice_get program class) name desc (no_method program class name desc is)

pub no_plain_reported : (program : Program) (class : ℕ) (name : Name) (desc : Desc) → None ≡ method_place (methods_at program class) name desc → SaysMethod program None (method_found program is_plain name desc class)
no_plain_reported program class name desc is = none_in_class is_plain (slice_get program class) name desc (no_method program class name desc is)

-- ---- fields

reported_field : (o : Option Class) (member : ℕ) (name : Name) (desc : Desc) → Some (slice_get (fields_of o) member) ≡ option_map Some (field_in (fields_of o) name desc)
    → Some (option_and_then (field_of_class member) o) ≡ option_map Some (field_in_class name desc o)
reported_field None member name desc reported = absurd (none-some (slice_get [] member) (sym reported))
reported_field (Some c) member name desc reported = by (slice_get c.fields member) (field_in c.fields name desc) reported where
  by : (there found : Option Field) → Some there ≡ option_map Some found → Some (option_map (λ f. record { class = c.name; field = f }) there) ≡ option_map Some (field_or c.name found None)
  by there None reported = absurd (none-some there (sym reported))
  by there (Some f) reported = rw (same_Some there (Some f) reported) refl

pub field_reported : (program : Program) (class : ℕ) (name : Name) (desc : Desc) (member : ℕ) → Some member ≡ field_place (fields_at program class) name desc
    → SaysField program (Some (record { class = class; member = member })) (field_found program name desc class)
field_reported program class name desc member is = reported_field (slice_get program class) member name desc (field_found_at program class name desc (Some member) is)

no_field_in_class : (o : Option Class) (name : Name) (desc : Desc) → field_in (fields_of o) name desc ≡ None → None ≡ option_map Some (field_in_class name desc o)
no_field_in_class None name desc none = refl
no_field_in_class (Some c) name desc none = rw none refl

pub no_field_reported : (program : Program) (class : ℕ) (name : Name) (desc : Desc) → None ≡ field_place (fields_at program class) name desc → SaysField program None (field_found program name desc class)
no_field_reported program class name desc is =
    no_field_in_class (slice_get program class) name desc (reported_none (field_in (fields_at program class) name desc) (field_found_at program class name desc None is))

-- ---- what searches answer, by the program

abbrev pub FirstSays : Option ℕ → ℕ → Name → Desc → Option Place → Program → Type 0
FirstSays object class name desc place program = SaysMethod program place (first_some (method_found program any_method name desc)
    (if is_interface (flags_of (slice_get program class)) then class ∷ option_list object else numbers_up most_classes program (Some class)))

abbrev pub AboveSays : ℕ → Name → Desc → Option Place → Program → Type 0
AboveSays class name desc place program =
    SaysMethod program place (first_some (λ k. first_some (method_found program is_plain name desc) (numbers_above program k)) (numbers_up most_classes program (Some class)))

abbrev pub FieldSays : ℕ → Name → Desc → Option Place → Program → Type 0
FieldSays class name desc place program =
    SaysField program place (first_some (λ k. first_some (field_found program name desc) (k ∷ numbers_above program k)) (numbers_up most_classes program (Some class)))
