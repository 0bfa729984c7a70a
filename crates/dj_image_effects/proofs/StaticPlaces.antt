-- Static fields that members resolve to have places.
use Rattle.std.proofs.Common.{◌≡◌, ◌+◌, ◌<◌, ℕ, Bool, true, false, List, [], ◌∷◌, length, set, Option, Some, None, if◌then◌else◌, refl, sym, ap, subst, ◌∙◌, arith}
use Rattle.std.specs.Prelude.{slice_get}
use Rattle.std.proofs.lemmas.Bool.{and_parts}
use Rattle.std.proofs.lemmas.List.{length-map, length-set}
use Rattle.std.proofs.lemmas.Option.{same_Some}
use Rattle.dj_names.specs.declared.descriptor.Desc.{Desc}
use Rattle.dj_names.specs.declared.descriptor.Kind.{Kind}
use Rattle.dj_names.specs.declared.run.Value.{Value}
use Rattle.dj_names.specs.trusted.Descriptors.{Describes}
use Rattle.dj_names.specs.trusted.Heaps.{field_bits}
use Rattle.dj_names.specs.trusted.Types.{Name, same_name, same_desc, field_kind}
use Rattle.dj_declarations.proofs.DescTests.{same_name_is, same_desc_is}
use Rattle.dj_model.specs.trusted.Types.{Member}
use Rattle.dj_model.specs.trusted.Instructions as model
use Rattle.dj_model.specs.trusted.Numbers.{is_of_kind}
use Rattle.dj_model.specs.trusted.Program.{Program, Class, Field, class_at, field_in, field_of, is_named, is_static}
use Rattle.dj_model.specs.trusted.Linking.{FoundField, count_fields, fields_before, field_or, field_order, first_field, member_class, most_classes, place_of_static, resolve_field, static_count, static_place}
use Rattle.dj_model.specs.trusted.Effects.{effect}
use Rattle.dj_heap.specs.Heaps.{LimitedHeap}
use Rattle.dj_stack.specs.Frames.{StackFrame, top_operands}
use Rattle.dj_effects.specs.declared.way.Way.{Way}
use Rattle.dj_member_effects.specs.Statics.{DoesOnStatics, OnStatics, get_static_by, put_static_by, leaves}
use Rattle.dj_member_effects.specs.Literals.{LiteralTable}
use Rattle.dj_numbering.specs.Members.{all_fields, IsFieldThere}
use Rattle.dj_numbering.specs.declared.types.MemberOf.{MemberOf}
use Rattle.dj_image.specs.Imaged.{Imaged, program_of, typed_of}
use Rattle.dj_initialisation.specs.Places.{Places, ArePlaces}
use Rattle.dj_initialisation.specs.Store.{IsStore, store}
use Rattle.dj_initialisation.proofs.PlaceLaws.{place_reported}
use Rattle.dj_image_effects.specs.declared.acted.Acted.TheVariants as acts
use Rattle.dj_image_effects.specs.Accesses.{IsStaticAt}
use Rattle.dj_image_effects.specs.Acting.{ActsOnStatics, IsKept, IsMember, machine}
use Rattle.dj_image_effects.specs.Flows.{way_acted}
use Rattle.dj_image_effects.proofs.Reported.{way_kept, statics_acted, stuck_acted}
use Rattle.dj_image_effects.proofs.Effects.{get_static_reported, put_static_reported}
use Rattle.dj_image_effects.proofs.FieldAccesses.{kind_alike}

-- ---- places are fewer than the static fields

one_static : (f : Field) (fields : List Field) → is_static f.flags ≡ true → count_fields true (f ∷ fields) ≡ 1 + count_fields true fields
one_static f fields e = rw e refl

count_more : (f : Field) (fields : List Field) → count_fields true (f ∷ fields) ≡ count_fields true (f ∷ []) + count_fields true fields
count_more f fields = by (is_static f.flags) refl where
  by : (b : Bool) → is_static f.flags ≡ b → count_fields true (f ∷ fields) ≡ count_fields true (f ∷ []) + count_fields true fields
  by true e = rw e refl
  by false e = rw e (omega arith)

before_less : (name : Name) (desc : Desc) (fields : List Field) (f : Field) → field_in fields name desc ≡ Some f → is_static f.flags ≡ true → fields_before true name desc fields < count_fields true fields
before_less name desc [] f e static = absurd cc
before_less name desc (g ∷ fields) f e static = by (is_named name desc g.name g.desc) (before_less name desc fields f) e where
  by : (b : Bool) → (field_in fields name desc ≡ Some f → is_static f.flags ≡ true → fields_before true name desc fields < count_fields true fields)
      → (if b then Some g else field_in fields name desc) ≡ Some f
      → (if b then 0 else count_fields true (g ∷ []) + fields_before true name desc fields) < count_fields true (g ∷ fields)
  by true later e =
      let one = one_static g fields (ap (λ (x : Field). is_static x.flags) (same_Some g f e) ∙ static) in omega (arith, one)
  by false later e =
      let less = later e static in
      let more = count_more g fields in omega (arith, less, more)

place_less : (program : Program) (class name : Name) (desc : Desc) (f : Field) → field_of (class_at program class) name desc ≡ Some f → is_static f.flags ≡ true
    → static_place program class name desc < static_count program
unfolding static_place
place_less [] class name desc f e static = absurd cc
place_less (c ∷ program) class name desc f e static = by (same_name c.name class) (place_less program class name desc f) e where
  by : (b : Bool) → (field_of (class_at program class) name desc ≡ Some f → is_static f.flags ≡ true → static_place program class name desc < static_count program)
      → field_of (if b then Some c else class_at program class) name desc ≡ Some f
      → (if b then fields_before true name desc c.fields else count_fields true c.fields + static_place program class name desc) < count_fields true c.fields + static_count program
  by true later e = let less = before_less name desc c.fields f e static in omega (arith, less)
  by false later e = let less = later e static in omega (arith, less)

-- what a field resolves to is found by its own names
record IsFound (program : Program) (found : FoundField) : Type 0 where
  there : field_of (class_at program found.class) found.field.name found.field.desc ≡ Some found.field

own_names : (fields : List Field) (name : Name) (desc : Desc) (f : Field) → field_in fields name desc ≡ Some f → (f.name ≡ name) × (f.desc ≡ desc)
own_names [] name desc f e = absurd cc
own_names (g ∷ fields) name desc f e = by (is_named name desc g.name g.desc) refl (own_names fields name desc f) e where
  by : (b : Bool) → is_named name desc g.name g.desc ≡ b → (field_in fields name desc ≡ Some f → (f.name ≡ name) × (f.desc ≡ desc))
      → (if b then Some g else field_in fields name desc) ≡ Some f → (f.name ≡ name) × (f.desc ≡ desc)
  by true is later e =
      let same : g ≡ f = same_Some g f e in
      let names = and_parts (same_name g.name name) (same_desc g.desc desc) is in
      (ap (λ (x : Field). x.name) (sym same) ∙ same_name_is g.name name names.0, ap (λ (x : Field). x.desc) (sym same) ∙ same_desc_is g.desc desc names.1)
  by false is later e = later e

class_names : (class : Option Class) (name : Name) (desc : Desc) (f : Field) → field_of class name desc ≡ Some f → (f.name ≡ name) × (f.desc ≡ desc)
class_names None name desc f e = absurd cc
class_names (Some c) name desc f e = own_names c.fields name desc f e

in_order : (program : Program) (name : Name) (desc : Desc) (classes : List Name) (found : FoundField) → first_field program name desc classes ≡ Some found → IsFound program found
in_order program name desc [] found e = absurd cc
in_order program name desc (class ∷ classes) found e = by (field_of (class_at program class) name desc) refl (in_order program name desc classes found) e where
  by : (o : Option Field) → field_of (class_at program class) name desc ≡ o → (first_field program name desc classes ≡ Some found → IsFound program found)
      → field_or class o (first_field program name desc classes) ≡ Some found → IsFound program found
  by None is later e = later e
  by (Some f) is later e =
      let names = class_names (class_at program class) name desc f is in
      subst (IsFound program) (same_Some (record { class = class; field = f }) found e)
      (record { there = ap (λ (n : Name). field_of (class_at program class) n f.desc) names.0 ∙ (ap (field_of (class_at program class) name) names.1 ∙ is) })

resolved_less : (program : Program) (prefix : List ℕ) (member : Member) (found : FoundField) → resolve_field program prefix member ≡ Some found → is_static found.field.flags ≡ true
    → place_of_static program found < static_count program
unfolding resolve_field
resolved_less program prefix member found e static =
    let is = in_order program member.name member.desc (field_order most_classes program (member_class prefix member.class)) found e in
    place_less program found.class found.field.name found.field.desc found.field is.there static

static_alike : (program : Program) (a b : FoundField) → a.class ≡ b.class → a.field.name ≡ b.field.name → a.field.desc ≡ b.field.desc → place_of_static program a ≡ place_of_static program b
static_alike program a b class name desc =
    ap (λ (c : Name). static_place program c a.field.name a.field.desc) class
    ∙ (ap (λ (n : Name). static_place program b.class n a.field.desc) name ∙ ap (static_place program b.class b.field.name) desc)

pub has_place : (program : Program) (places : Places) (n : ℕ) → ArePlaces program places → n < length (all_fields program) → n < length places.each
has_place program places n are less =
    let each = ap (λ (ks : List ℕ). length ks) are.each in
    let long = length-map (all_fields program) (place_of_static program) in
    omega (arith, each, long, less)

-- where there is such a step, as many static fields are left
put_length : (kind : Kind) (place : ℕ) (before after : List ℕ) (operands rest : List Value) → put_static_by kind place before operands ≡ Some (leaves after rest) → length after ≡ length before
unfolding put_static_by
put_length kind place before after [] rest e = absurd cc
put_length kind place before after (v ∷ operands) rest e = by (is_of_kind kind v) e where
  by : (b : Bool) → (if b then Some (leaves (set before place (field_bits v)) operands) else None) ≡ Some (leaves after rest) → length after ≡ length before
  by true e =
      let same = same_Some (leaves (set before place (field_bits v)) operands) (leaves after rest) e in
      ap (λ (s : OnStatics). length s.statics) (sym same) ∙ length-set before place (field_bits v)
  by false e = absurd cc

put_kept : (imaged : Imaged) (heap : LimitedHeap) (literals : LiteralTable) (old new : List StackFrame) (before after : List ℕ) (kind : Kind) (place : ℕ) (way : Option Way)
    → DoesOnStatics (put_static_by kind place) old new before after way → IsStore imaged (store heap before literals) → IsKept imaged (store heap after literals) (way_acted way)
put_kept imaged heap literals old new before after kind place None does are = tt
put_kept imaged heap literals old new before after kind place (Some way) does are =
    record { statics = put_length kind place before after (top_operands old) (top_operands new) does.effect ∙ are.statics; count = are.count; texts = are.texts }

module _ (imaged : Imaged) (places : Places) (are : ArePlaces (program_of imaged) places) (n place : ℕ) (at : slice_get places.each n ≡ Some place) where
  place_is : (member : Member) (found : FoundField) → IsMember imaged member found n → place ≡ place_of_static (program_of imaged) found
  place_is member found is =
      place_reported (program_of imaged) places n place is.other are is.there at ∙ static_alike (program_of imaged) is.other found is.class is.name is.desc

  pub place_within : (statics : List ℕ) → length statics ≡ static_count (program_of imaged) → IsStaticAt imaged n → place < length statics
  place_within statics count found =
      let less = resolved_less (program_of imaged) imaged.prefix found.member found.found found.is.resolves found.static in
      let same = place_is found.member found.found found.is in
      omega (arith, less, same, count)

  module _ (member : Member) (found : FoundField) (is : IsMember imaged member found n) (reported : MemberOf) (there : IsFieldThere (typed_of imaged) n reported) where
    kind_is : (kind : Option Kind) → ((d : Desc) → Describes reported.desc.now d → kind ≡ field_kind d) → field_kind member.desc ≡ kind
    kind_is kind says = kind_alike imaged member found n is there.found there.there kind (sym (says there.found.field.desc there.desc))

    pub got_static : (old new : List StackFrame) (statics : List ℕ) (kind : Kind) (way : Option Way) → ((d : Desc) → Describes reported.desc.now d → Some kind ≡ field_kind d)
        → DoesOnStatics (get_static_by kind place) old new statics statics way → ActsOnStatics imaged (model.GetStatic member) old new statics statics (way_acted way)
    got_static old new statics kind way says does heap literals store_is =
        statics_acted imaged (model.GetStatic member) old new heap statics statics literals way (get_static_by kind (place_of_static (program_of imaged) found))
        (get_static_reported imaged member found kind is.resolves (kind_is (Some kind) says))
        (subst (λ (p : ℕ). DoesOnStatics (get_static_by kind p) old new statics statics way) (place_is member found is) does) (way_kept imaged (store heap statics literals) way store_is)

    pub put_static_so : (old new : List StackFrame) (before after : List ℕ) (kind : Kind) (way : Option Way) → ((d : Desc) → Describes reported.desc.now d → Some kind ≡ field_kind d)
        → DoesOnStatics (put_static_by kind place) old new before after way → ActsOnStatics imaged (model.PutStatic member) old new before after (way_acted way)
    put_static_so old new before after kind way says does heap literals store_is =
        statics_acted imaged (model.PutStatic member) old new heap before after literals way (put_static_by kind (place_of_static (program_of imaged) found))
        (put_static_reported imaged member found kind is.resolves (kind_is (Some kind) says))
        (subst (λ (p : ℕ). DoesOnStatics (put_static_by kind p) old new before after way) (place_is member found is) does)
        (put_kept imaged heap literals old new before after kind place way does store_is)

-- of a float or a double
module _ (imaged : Imaged) (n : ℕ) (member : Member) (found : FoundField) (is : IsMember imaged member found n) (reported : MemberOf) (there : IsFieldThere (typed_of imaged) n reported)
    (says : (d : Desc) → Describes reported.desc.now d → None ≡ field_kind d) where
  none_is : field_kind member.desc ≡ None
  none_is = kind_alike imaged member found n is there.found there.there None (sym (says there.found.field.desc there.desc))

  pub get_static_none : (old : List StackFrame) (statics : List ℕ) → ActsOnStatics imaged (model.GetStatic member) old old statics statics acts.Stuck
  unfolding effect
  get_static_none old statics heap literals store_is =
      stuck_acted imaged (model.GetStatic member) (machine old (store heap statics literals)) (λ terms own p. rw none_is refl)

  pub put_static_none : (old : List StackFrame) (statics : List ℕ) → ActsOnStatics imaged (model.PutStatic member) old old statics statics acts.Stuck
  unfolding effect
  put_static_none old statics heap literals store_is =
      stuck_acted imaged (model.PutStatic member) (machine old (store heap statics literals)) (λ terms own p. rw none_is refl)
