-- The field of a number is that of the member which resolves to it.
use Rattle.std.proofs.Common.{◌≡◌, ◌+◌, ℕ, List, Option, Some, None, refl, sym, ap, subst, ◌∙◌}
use Rattle.std.specs.Prelude.{slice_get}
use Rattle.std.specs.Option.{option_map}
use Rattle.std.proofs.lemmas.Option.{same_Some}
use Rattle.dj_names.specs.declared.descriptor.Desc.{Desc}
use Rattle.dj_names.specs.declared.descriptor.Kind.{Kind}
use Rattle.dj_names.specs.trusted.Descriptors.{Describes}
use Rattle.dj_names.specs.trusted.Types.{Name, field_kind}
use Rattle.dj_model.specs.trusted.Types.{Member}
use Rattle.dj_model.specs.trusted.Instructions as model
use Rattle.dj_model.specs.trusted.Program.{Program, class_at}
use Rattle.dj_model.specs.trusted.Linking.{FoundField, chain, fields_in, own_place, place_of, superclasses}
use Rattle.dj_model.specs.trusted.Effects.{effect}
use Rattle.dj_heap.specs.Heaps.{LimitedHeap}
use Rattle.dj_stack.specs.Frames.{StackFrame}
use Rattle.dj_effects.specs.DoesOnHeap.{DoesOnHeap}
use Rattle.dj_effects.specs.declared.way.Flow.{Flow}
use Rattle.dj_member_effects.specs.Fields.{get_field_by, put_field_by}
use Rattle.dj_member_effects.specs.declared.fields.FieldAccess.{FieldAccess}
use Rattle.dj_class_table.specs.Tables.{name_at}
use Rattle.dj_numbering.specs.Members.{all_fields, IsFieldThere}
use Rattle.dj_numbering.specs.declared.types.MemberOf.{MemberOf}
use Rattle.dj_image.specs.Imaged.{Imaged, program_of, typed_of}
use Rattle.dj_field_holders.specs.Holders.{has_named, holds}
use Rattle.dj_initialisation.specs.Store.{store}
use Rattle.dj_image_effects.specs.declared.acted.Acted.TheVariants as acts
use Rattle.dj_image_effects.specs.Accesses.{IsAccess, IsAccessTo}
use Rattle.dj_image_effects.specs.Acting.{ActsOnHeap, IsHeap, IsMember, machine}
use Rattle.dj_image_effects.specs.Flows.{flow_acted}
use Rattle.dj_image_effects.proofs.Reported.{heap_acted, stuck_acted}
use Rattle.dj_image_effects.proofs.Effects.{get_is, put_is}

abbrev place_by : Program → Name → Name → Desc → ℕ
place_by program class name desc = fields_in program (superclasses (chain program class)) + own_place (class_at program class) name desc

place_alike : (program : Program) (a b : FoundField) → a.class ≡ b.class → a.field.name ≡ b.field.name → a.field.desc ≡ b.field.desc → place_of program a ≡ place_of program b
unfolding place_of
place_alike program a b class name desc =
    ap (λ (c : Name). place_by program c a.field.name a.field.desc) class
    ∙ (ap (λ (n : Name). place_by program b.class n a.field.desc) name ∙ ap (place_by program b.class b.field.name) desc)

module _ (imaged : Imaged) (member : Member) (found : FoundField) (n : ℕ) (is : IsMember imaged member found n) where
  -- the descriptor of the field of the number is the member's
  pub kind_alike : (other : FoundField) → slice_get (all_fields (program_of imaged)) n ≡ Some other → (kind : Option Kind) → field_kind other.field.desc ≡ kind → field_kind member.desc ≡ kind
  kind_alike other there kind e =
      let same : other ≡ is.other = same_Some other is.other (sym there ∙ is.there) in
      ap field_kind (sym (ap (λ (f : FoundField). f.field.desc) same ∙ (is.desc ∙ is.same))) ∙ e

  -- of a float or a double
  pub get_none : (old : List StackFrame) (heap : LimitedHeap) → IsAccess imaged n None → ActsOnHeap imaged (model.GetField member) old old heap heap acts.Stuck
  unfolding effect
  get_none old heap none statics literals are =
      stuck_acted imaged (model.GetField member) (machine old (store heap statics literals))
      (λ terms own p. rw (kind_alike is.other is.there None (none is.other is.there)) refl)

  pub put_none : (old : List StackFrame) (heap : LimitedHeap) → IsAccess imaged n None → ActsOnHeap imaged (model.PutField member) old old heap heap acts.Stuck
  unfolding effect
  put_none old heap none statics literals are =
      stuck_acted imaged (model.PutField member) (machine old (store heap statics literals))
      (λ terms own p. rw (kind_alike is.other is.there None (none is.other is.there)) refl)

  module _ (access : FieldAccess) (to : IsAccessTo imaged n access) where
    same : to.found ≡ is.other
    same = same_Some to.found is.other (sym to.there ∙ is.there)

    kind_is : field_kind member.desc ≡ Some access.kind
    kind_is = kind_alike to.found to.there (Some access.kind) to.kind

    place_is : access.place ≡ place_of (program_of imaged) found
    place_is = to.place ∙ (ap (place_of (program_of imaged)) same ∙ place_alike (program_of imaged) is.other found is.class is.name is.desc)

    -- the name of the class that declares the field decides which classes have it
    named : name_at (program_of imaged) access.declaring ≡ Some found.class
    named = to.class ∙ ap Some (ap (λ (f : FoundField). f.class) same ∙ is.class)

    pub got : (old new : List StackFrame) (heap : LimitedHeap) (flow : Option Flow) → IsHeap imaged heap
        → DoesOnHeap (get_field_by (holds imaged access.declaring) access.kind access.place) old new heap heap flow
        → ActsOnHeap imaged (model.GetField member) old new heap heap (flow_acted flow)
    got old new heap flow known does statics literals are =
        heap_acted imaged (model.GetField member) old new heap heap statics literals flow _
        (get_is imaged (machine old (store heap statics literals)) known member found access.kind is.resolves kind_is)
        (subst (λ (place : ℕ). DoesOnHeap (get_field_by (has_named imaged (Some found.class)) access.kind place) old new heap heap flow) place_is
        (subst (λ (name : Option Name). DoesOnHeap (get_field_by (has_named imaged name) access.kind access.place) old new heap heap flow) named does)) are

    pub put : (old new : List StackFrame) (before after : LimitedHeap) (flow : Option Flow) → IsHeap imaged before
        → DoesOnHeap (put_field_by (holds imaged access.declaring) access.kind access.place) old new before after flow
        → ActsOnHeap imaged (model.PutField member) old new before after (flow_acted flow)
    put old new before after flow known does statics literals are =
        heap_acted imaged (model.PutField member) old new before after statics literals flow _
        (put_is imaged (machine old (store before statics literals)) known member found access.kind is.resolves kind_is)
        (subst (λ (place : ℕ). DoesOnHeap (put_field_by (has_named imaged (Some found.class)) access.kind place) old new before after flow) place_is
        (subst (λ (name : Option Name). DoesOnHeap (put_field_by (has_named imaged name) access.kind access.place) old new before after flow) named does)) are

-- ---- what is found of the field of a number

pub access_none : (imaged : Imaged) (n : ℕ) (reported : MemberOf) (kind : Option Kind) → IsFieldThere (typed_of imaged) n reported
    → ((d : Desc) → Describes reported.desc.now d → kind ≡ field_kind d) → kind ≡ None → IsAccess imaged n None
access_none imaged n reported kind there says none found at =
    let same : there.found ≡ found = same_Some there.found found (sym there.there ∙ at) in
    ap (λ (f : FoundField). field_kind f.field.desc) (sym same) ∙ (sym (says there.found.field.desc there.desc) ∙ none)

pub access_some : (imaged : Imaged) (n place : ℕ) (reported : MemberOf) (kind : Kind) → IsFieldThere (typed_of imaged) n reported
    → ((d : Desc) → Describes reported.desc.now d → Some kind ≡ field_kind d)
    → Some place ≡ option_map (place_of (program_of imaged)) (slice_get (all_fields (program_of imaged)) n)
    → IsAccessTo imaged n (record { declaring = reported.class; place = place; kind = kind })
access_some imaged n place reported kind there says at = record {
  found = there.found;
  there = there.there;
  class = there.class;
  place = same_Some place (place_of (program_of imaged) there.found) (at ∙ ap (option_map (place_of (program_of imaged))) there.there);
  kind = sym (says there.found.field.desc there.desc);
}
