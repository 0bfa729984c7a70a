-- The message of an exception, by the numbers of objects.
use Rattle.std.proofs.Common.{◌≡◌, ◌<◌, ℕ, true, false, List, [], ◌∷◌, length, Option, Some, None, IsSome, refl, sym, ap, subst, ◌∙◌, arith}
use Rattle.std.specs.Prelude.{slice_get, slice_index, option_and_then}
use Rattle.std.specs.Option.{option_map}
use Rattle.std.proofs.lemmas.Option.{slice_get-get_or}
use Rattle.dj_names.specs.declared.descriptor.Ty.{Ty}
use Rattle.dj_names.specs.declared.run.Message.TheVariants as messages
use Rattle.dj_names.specs.declared.run.Element.{Element}
use Rattle.dj_names.specs.trusted.Heaps.{Object, Instance, Array, Text, object_at}
use Rattle.dj_names.specs.Heaps.{object_map}
use Rattle.dj_heap.specs.Heaps.{LimitedHeap, object_in, fields_of, units_of, field_in, unit_in}
use Rattle.dj_heap.specs.Lengths.{object_length}
use Rattle.dj_heap.specs.Calls.{made_as}
use Rattle.dj_heap.specs.declared.object.Made.TheVariants as made
use Rattle.dj_model.specs.trusted.Step.{text_in, message_of}
use Rattle.dj_library_types.specs.Numbered.{type_at}
use Rattle.dj_natives.specs.Calls.{typed_heap}
use Rattle.dj_natives.specs.Seen.{field_held, units_held, is_text_held, field_at, units_at, is_text_at}
use Rattle.dj_natives.proofs.SeenFacts.{field_alike, object_alike}
use Rattle.dj_natives.proofs.HeapLaws.{instance_is}
use Rattle.dj_settling.specs.Settling.{text_held, message_at}

-- ---- in the model

text_typed : (types : List Ty) (o : Option (Object ℕ)) → text_in (option_map (object_map (type_at types)) o) ≡ text_held o
text_typed types None = refl
text_typed types (Some (Instance class fields)) = refl
text_typed types (Some (Array class element contents)) = refl
text_typed types (Some (Text class units)) = refl

pub message_alike : (types : List Ty) (h : LimitedHeap) (r : ℕ) → message_of (typed_heap types h) r ≡ message_at h r
message_alike types h r =
    ap (λ (n : ℕ). text_in (object_at (typed_heap types h).objects n)) (field_alike types h r 0)
    ∙ (ap text_in (object_alike types h (field_at h r 0)) ∙ text_typed types (object_in h (field_at h r 0)))

-- ---- a field

pub field_there : (h : LimitedHeap) (r count : ℕ) → option_map made_as (object_in h r) ≡ Some made.Instance → option_map object_length (object_in h r) ≡ Some count → 0 < count → IsSome (field_in h r 0)
field_there h r count kind long some =
    let is = instance_is h r 0 count kind long some in
    subst IsSome (sym (ap (λ (o : Option (Object ℕ)). option_and_then (λ fields. slice_get fields 0) (option_and_then fields_of o)) is.is ∙ slice_get-get_or is.fields 0 0 is.within)) refl

pub some_field : (h : LimitedHeap) (r bits : ℕ) → field_in h r 0 ≡ Some bits → bits ≡ field_at h r 0
some_field h r bits e = by (object_in h r) e where
  first : (fields : List ℕ) → slice_get fields 0 ≡ Some bits → bits ≡ slice_index fields 0
  first [] e = absurd cc
  first (x ∷ fields) e = cc

  by : (o : Option (Object ℕ)) → option_and_then (λ fields. slice_get fields 0) (option_and_then fields_of o) ≡ Some bits → bits ≡ field_held o 0
  by None e = absurd cc
  by (Some (Instance class fields)) e = first fields e
  by (Some (Array class element contents)) e = absurd cc
  by (Some (Text class units)) e = absurd cc

pub no_field : (h : LimitedHeap) (r count : ℕ) → option_map object_length (object_in h r) ≡ Some count → (0 < count → ⊥) → 0 ≡ field_at h r 0
no_field h r count long none = by (object_in h r) long where
  first : (fields : List ℕ) → Some (length fields) ≡ Some count → 0 ≡ slice_index fields 0
  first [] e = refl
  first (x ∷ fields) e = let same : length (x ∷ fields) ≡ count = cc in absurd (none (omega (arith, same)))

  by : (o : Option (Object ℕ)) → option_map object_length o ≡ Some count → 0 ≡ field_held o 0
  by None e = refl
  by (Some (Instance class fields)) e = first fields e
  by (Some (Array class element contents)) e = refl
  by (Some (Text class units)) e = refl

pub text_has_none : (h : LimitedHeap) (r : ℕ) → option_map made_as (object_in h r) ≡ Some made.Text → 0 ≡ field_at h r 0
text_has_none h r kind = by (object_in h r) kind where
  by : (o : Option (Object ℕ)) → option_map made_as o ≡ Some made.Text → 0 ≡ field_held o 0
  by None e = refl
  by (Some (Instance class fields)) e = absurd cc
  by (Some (Array class element contents)) e = refl
  by (Some (Text class units)) e = refl

pub array_has_none : (h : LimitedHeap) (r : ℕ) (element : Element) → option_map made_as (object_in h r) ≡ Some (made.Array element) → 0 ≡ field_at h r 0
array_has_none h r element kind = by (object_in h r) kind where
  by : (o : Option (Object ℕ)) → option_map made_as o ≡ Some (made.Array element) → 0 ≡ field_held o 0
  by None e = refl
  by (Some (Instance class fields)) e = absurd cc
  by (Some (Array class of contents)) e = refl
  by (Some (Text class units)) e = refl

-- ---- a text

pub text_is : (h : LimitedHeap) (r : ℕ) → is_text_at h r ≡ true → text_held (object_in h r) ≡ messages.Text (units_at h r)
text_is h r e = by (object_in h r) e where
  by : (o : Option (Object ℕ)) → is_text_held o ≡ true → text_held o ≡ messages.Text (units_held o)
  by None e = absurd cc
  by (Some (Instance class fields)) e = absurd cc
  by (Some (Array class element contents)) e = absurd cc
  by (Some (Text class units)) e = refl

pub no_text : (h : LimitedHeap) (r : ℕ) → is_text_at h r ≡ false → text_held (object_in h r) ≡ messages.Null
no_text h r e = by (object_in h r) e where
  by : (o : Option (Object ℕ)) → is_text_held o ≡ false → text_held o ≡ messages.Null
  by None e = refl
  by (Some (Instance class fields)) e = refl
  by (Some (Array class element contents)) e = refl
  by (Some (Text class units)) e = absurd cc

pub message_text : (h : LimitedHeap) (r n text : ℕ) → n ≡ field_at h r 0 → text ≡ n → is_text_at h n ≡ true → messages.Text (units_at h text) ≡ message_at h r
message_text h r n text field is kind =
    ap (λ (k : ℕ). messages.Text (units_at h k)) is ∙ (sym (text_is h n kind) ∙ ap (λ (k : ℕ). text_held (object_in h k)) field)

pub message_null : (h : LimitedHeap) (r n : ℕ) → n ≡ field_at h r 0 → is_text_at h n ≡ false → messages.Null ≡ message_at h r
message_null h r n field kind = sym (no_text h n kind) ∙ ap (λ (k : ℕ). text_held (object_in h k)) field

pub text_there : (h : LimitedHeap) (r : ℕ) → is_text_at h r ≡ true → IsSome (object_in h r)
text_there h r e = by (object_in h r) e where
  by : (o : Option (Object ℕ)) → is_text_held o ≡ true → IsSome o
  by None e = absurd cc
  by (Some object) e = refl

pub units_long : (h : LimitedHeap) (r count : ℕ) → is_text_at h r ≡ true → option_map object_length (object_in h r) ≡ Some count → count ≡ length (units_at h r)
units_long h r count kind long = by (object_in h r) kind long where
  by : (o : Option (Object ℕ)) → is_text_held o ≡ true → option_map object_length o ≡ Some count → count ≡ length (units_held o)
  by None e f = absurd cc
  by (Some (Instance class fields)) e f = absurd cc
  by (Some (Array class element contents)) e f = absurd cc
  by (Some (Text class units)) e f = cc

unit_held : (h : LimitedHeap) (r at : ℕ) → is_text_at h r ≡ true → unit_in h r at ≡ slice_get (units_at h r) at
unit_held h r at e = by (object_in h r) e where
  by : (o : Option (Object ℕ)) → is_text_held o ≡ true → option_and_then (λ units. slice_get units at) (option_and_then units_of o) ≡ slice_get (units_held o) at
  by None e = absurd cc
  by (Some (Instance class fields)) e = absurd cc
  by (Some (Array class element contents)) e = absurd cc
  by (Some (Text class units)) e = refl

pub unit_there : (h : LimitedHeap) (r at : ℕ) → is_text_at h r ≡ true → at < length (units_at h r) → IsSome (unit_in h r at)
unit_there h r at kind lt = subst IsSome (sym (unit_held h r at kind ∙ slice_get-get_or (units_at h r) at 0 lt)) refl

pub unit_is : (h : LimitedHeap) (r at unit : ℕ) → is_text_at h r ≡ true → unit_in h r at ≡ Some unit → slice_get (units_at h r) at ≡ Some unit
unit_is h r at unit kind e = sym (unit_held h r at kind) ∙ e
