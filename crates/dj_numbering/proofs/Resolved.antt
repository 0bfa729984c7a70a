-- What is found by resolution has the name and the descriptor that were looked for.
use Rattle.std.proofs.Common.{◌≡◌, ℕ, Bool, true, false, List, [], ◌∷◌, Option, Some, None, refl, sym, subst, if◌then◌else◌}
use Rattle.std.specs.Option.{option_map}
use Rattle.std.proofs.lemmas.Bool.{and_parts}
use Rattle.std.proofs.lemmas.Option.{none-some, same_Some}
use Rattle.dj_names.specs.declared.descriptor.Desc.{Desc}
use Rattle.dj_names.specs.trusted.Types.{Name, same_name, same_desc}
use Rattle.dj_model.specs.trusted.Program.{Program, Class, Field, class_at, field_in, field_of, is_named}
use Rattle.dj_model.specs.trusted.Linking.{FoundMethod, FoundField, field_or, first_field, most_classes, field_order, member_class, resolve_field}
use Rattle.dj_model.proofs.SoundLinks.{resolved_there, there_name}
use Rattle.dj_declarations.specs.trusted.Files.{desc_in}
use Rattle.dj_declarations.proofs.DescTests.{same_name_is, same_desc_is}
use Rattle.dj_class_table.specs.Tables.{method_there, field_there}
use Rattle.dj_class_table.specs.declared.place.Place.{Place}
use Rattle.dj_resolution.specs.Linked.{Linked, member_of, resolved_method, resolved_field}
use Rattle.dj_numbering.specs.Named.{IsNamedMethod, IsNamedField}
use Rattle.dj_numbering.proofs.First.{reported_is}

method_named : (linked : Linked) (class : ℕ) (name : Name) (desc : List ℕ) → IsNamedMethod name (desc_in desc) (resolved_method linked class name desc)
method_named linked class name desc = by (resolved_method linked class name desc) refl where
  by : (o : Option FoundMethod) → resolved_method linked class name desc ≡ o → IsNamedMethod name (desc_in desc) o
  by None is = tt
  by (Some found) is = there_name linked.program name (desc_in desc) found (resolved_there linked.program linked.prefix (member_of linked.program class name desc) found is)

-- the method at a place that was found
pub method_named_at : (linked : Linked) (class : ℕ) (name : Name) (desc : List ℕ) (place : Place) → Some (method_there linked.program place) ≡ option_map Some (resolved_method linked class name desc)
    → IsNamedMethod name (desc_in desc) (method_there linked.program place)
method_named_at linked class name desc place reported =
    subst (λ (o : Option FoundMethod). IsNamedMethod name (desc_in desc) o) (sym (reported_is (Some (method_there linked.program place)) (resolved_method linked class name desc) reported)) (method_named linked class name desc)

-- ---- fields

abbrev IsOf : Name → Desc → Field → Type 0
IsOf name desc f = (f.name ≡ name) × (f.desc ≡ desc)

field_in_named : (fields : List Field) (name : Name) (desc : Desc) (f : Field) → field_in fields name desc ≡ Some f → IsOf name desc f
field_in_named [] name desc f e = absurd (none-some f e)
field_in_named (g ∷ fields) name desc f e = by (is_named name desc g.name g.desc) (field_in_named fields name desc f) refl e where
  by : (b : Bool) → (field_in fields name desc ≡ Some f → IsOf name desc f) → is_named name desc g.name g.desc ≡ b → (if b then Some g else field_in fields name desc) ≡ Some f → IsOf name desc f
  by true later is r =
      let parts = and_parts (same_name g.name name) (same_desc g.desc desc) is in
      subst (λ (x : Field). IsOf name desc x) (same_Some g f r) (same_name_is g.name name parts.0, same_desc_is g.desc desc parts.1)
  by false later is r = later r

field_of_named : (c : Option Class) (name : Name) (desc : Desc) (f : Field) → field_of c name desc ≡ Some f → IsOf name desc f
field_of_named None name desc f e = absurd (none-some f e)
field_of_named (Some c) name desc f e = field_in_named c.fields name desc f e

first_field_named : (program : Program) (name : Name) (desc : Desc) (classes : List Name) (found : FoundField) → first_field program name desc classes ≡ Some found → IsOf name desc found.field
first_field_named program name desc [] found e = absurd (none-some found e)
first_field_named program name desc (class ∷ classes) found e = by (field_of (class_at program class) name desc) (first_field_named program name desc classes found) refl e where
  by : (o : Option Field) → (first_field program name desc classes ≡ Some found → IsOf name desc found.field) → field_of (class_at program class) name desc ≡ o → field_or class o (first_field program name desc classes) ≡ Some found → IsOf name desc found.field
  by None later is r = later r
  by (Some f) later is r = subst (λ (x : FoundField). IsOf name desc x.field) (same_Some (record { class = class; field = f }) found r) (field_of_named (class_at program class) name desc f is)

field_named : (linked : Linked) (class : ℕ) (name : Name) (desc : List ℕ) → IsNamedField name (desc_in desc) (resolved_field linked class name desc)
unfolding resolve_field
field_named linked class name desc = by (resolved_field linked class name desc) refl where
  by : (o : Option FoundField) → resolved_field linked class name desc ≡ o → IsNamedField name (desc_in desc) o
  by None is = tt
  by (Some found) is = first_field_named linked.program name (desc_in desc) (field_order most_classes linked.program (member_class linked.prefix (member_of linked.program class name desc).class)) found is

-- the field at a place that was found
pub field_named_at : (linked : Linked) (class : ℕ) (name : Name) (desc : List ℕ) (place : Place) → Some (field_there linked.program place) ≡ option_map Some (resolved_field linked class name desc)
    → IsNamedField name (desc_in desc) (field_there linked.program place)
field_named_at linked class name desc place reported =
    subst (λ (o : Option FoundField). IsNamedField name (desc_in desc) o) (sym (reported_is (Some (field_there linked.program place)) (resolved_field linked class name desc) reported)) (field_named linked class name desc)
