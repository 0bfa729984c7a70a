-- What the model sees of a heap, given by the numbers of classes.
use Rattle.std.proofs.Common.{◌≡◌, ℕ, List, Option, Some, None, refl, ap, ◌∙◌}
use Rattle.std.specs.Option.{option_map}
use Rattle.dj_names.specs.declared.descriptor.Ty.{Ty}
use Rattle.dj_names.specs.trusted.Heaps.{Object, Instance, Array, Text, object_at}
use Rattle.dj_names.specs.Heaps.{object_map}
use Rattle.dj_heap.specs.Heaps.{LimitedHeap, object_in}
use Rattle.dj_model.specs.trusted.Types.{Prefix}
use Rattle.dj_model.specs.trusted.Performing.{units_in, is_text_in, object_field, elements_in, shown_in}
use Rattle.dj_model.proofs.MappedHeaps.{object_at_mapped, class_of_mapped}
use Rattle.dj_library_types.specs.Numbered.{type_at}
use Rattle.dj_natives.specs.Seen.{units_held, is_text_held, field_held, elements_held, units_at, is_text_at, field_at, elements_at}
use Rattle.dj_natives.specs.Names.{shown_held, shown_at}
use Rattle.dj_natives.specs.Calls.{typed_heap}

module _ (types : List Ty) where
  abbrev pub typed : Option (Object ℕ) → Option (Object Ty)
  typed o = option_map (object_map (type_at types)) o

  pub object_alike : (h : LimitedHeap) (r : ℕ) → object_at (typed_heap types h).objects r ≡ typed (object_in h r)
  object_alike h r = object_at_mapped (type_at types) h.heap.objects r

  units_typed : (o : Option (Object ℕ)) → units_in (typed o) ≡ units_held o
  units_typed None = refl
  units_typed (Some (Instance class fields)) = refl
  units_typed (Some (Array class element contents)) = refl
  units_typed (Some (Text class units)) = refl

  is_text_typed : (o : Option (Object ℕ)) → is_text_in (typed o) ≡ is_text_held o
  is_text_typed None = refl
  is_text_typed (Some (Instance class fields)) = refl
  is_text_typed (Some (Array class element contents)) = refl
  is_text_typed (Some (Text class units)) = refl

  field_typed : (o : Option (Object ℕ)) (place : ℕ) → object_field (typed o) place ≡ field_held o place
  field_typed None place = refl
  field_typed (Some (Instance class fields)) place = refl
  field_typed (Some (Array class element contents)) place = refl
  field_typed (Some (Text class units)) place = refl

  elements_typed : (o : Option (Object ℕ)) → elements_in (typed o) ≡ elements_held o
  elements_typed None = refl
  elements_typed (Some (Instance class fields)) = refl
  elements_typed (Some (Array class element contents)) = refl
  elements_typed (Some (Text class units)) = refl

  shown_typed : (prefix : Prefix) (o : Option (Object ℕ)) → shown_in prefix (typed o) ≡ shown_held prefix types o
  shown_typed prefix None = refl
  shown_typed prefix (Some (Instance class fields)) = refl
  shown_typed prefix (Some (Array class element contents)) = refl
  shown_typed prefix (Some (Text class units)) = refl

  pub units_alike : (h : LimitedHeap) (r : ℕ) → units_in (object_at (typed_heap types h).objects r) ≡ units_at h r
  units_alike h r = ap units_in (object_alike h r) ∙ units_typed (object_in h r)

  pub is_text_alike : (h : LimitedHeap) (r : ℕ) → is_text_in (object_at (typed_heap types h).objects r) ≡ is_text_at h r
  is_text_alike h r = ap is_text_in (object_alike h r) ∙ is_text_typed (object_in h r)

  pub field_alike : (h : LimitedHeap) (r place : ℕ) → object_field (object_at (typed_heap types h).objects r) place ≡ field_at h r place
  field_alike h r place = ap (λ o. object_field o place) (object_alike h r) ∙ field_typed (object_in h r) place

  pub elements_alike : (h : LimitedHeap) (r : ℕ) → elements_in (object_at (typed_heap types h).objects r) ≡ elements_at h r
  elements_alike h r = ap elements_in (object_alike h r) ∙ elements_typed (object_in h r)

  pub shown_alike : (prefix : Prefix) (h : LimitedHeap) (r : ℕ) → shown_in prefix (object_at (typed_heap types h).objects r) ≡ shown_at prefix types h r
  shown_alike prefix h r = ap (shown_in prefix) (object_alike h r) ∙ shown_typed prefix (object_in h r)
