-- Instances, as the code finds them.
use Rattle.std.proofs.Common.{◌≡◌, ◌<◌, ◌-◌, ℕ, Bool, true, false, List, length, Option, Some, None, slice_get, nat_eq, Result, Ok, Err, if◌then◌else◌, refl, sym, ap, subst, ◌∙◌, arith}
use Rattle.std.specs.Option.{option_map}
use Rattle.std.specs.List.{All}
use Rattle.std.proofs.lemmas.List.Elements.{All-get_or}
use Rattle.std.proofs.lemmas.Option.{slice_get_within, slice_get_past, get_or_from_slice_get}
use Rattle.dj_names.specs.declared.run.Element.{Element}
use Rattle.dj_names.specs.declared.run.Raised.TheVariants as raises
use Rattle.dj_names.specs.trusted.Heaps.{Object, Instance, Array, Text, Heap, class_of, object_at}
use Rattle.dj_heap.specs.Heaps.{LimitedHeap, object_in}
use Rattle.dj_heap.specs.Lengths.{object_length}
use Rattle.dj_heap.specs.Calls.{made_as}
use Rattle.dj_heap.specs.declared.object.Made.TheVariants as made
use Rattle.dj_effects.specs.declared.way.Way.TheVariants as ways
use Rattle.dj_effects.specs.declared.way.Flow.{Flow}
use Rattle.dj_effects.specs.declared.way.Flow.TheVariants as goes
use Rattle.dj_effects.proofs.ArrayFacts.{not_null}
use Rattle.dj_member_effects.specs.Numbering.{AreNumbered}
use Rattle.dj_member_effects.specs.Fields.{HasFields, Null, NoHolder, Holds, holder_in, holder_by, holder_reported}

-- ---- classes in range

all_at : {A : Type 0} (P : A → Type 0) (items : List A) (i : ℕ) (x : A) → slice_get items i ≡ Some x → All P items → P x
all_at P items i x e all = subst P (get_or_from_slice_get items i x x e) (All-get_or P items i x (slice_get_within items i x e) all)

numbered_if : (b : Bool) (count : ℕ) (heap : Heap ℕ) (i class : ℕ) → AreNumbered count heap
    → option_map class_of (if b then None else slice_get heap.objects i) ≡ Some class → class < count
numbered_if true count heap i class all e = absurd cc
numbered_if false count heap i class all e = go (slice_get heap.objects i) refl e where
  go : (o : Option (Object ℕ)) → slice_get heap.objects i ≡ o → option_map class_of o ≡ Some class → class < count
  go None there e = absurd cc
  go (Some object) there e =
      let same : class_of object ≡ class = cc in
      subst (λ (k : ℕ). k < count) same (all_at (λ (x : Object ℕ). class_of x < count) heap.objects i object there all)

pub class_numbered : (count : ℕ) (h : LimitedHeap) (r class : ℕ) → AreNumbered count h.heap → option_map class_of (object_in h r) ≡ Some class → class < count
class_numbered count h r class all e = numbered_if (nat_eq r 0) count h.heap (r - 1) class all e

-- ---- what a reference is

pub null_holder : (has : ℕ → Bool) (h : LimitedHeap) (r : ℕ) → r ≡ 0 → Err (goes.Goes (ways.Raise raises.NullPointer)) ≡ holder_reported (holder_by has h.heap r)
null_holder has h r null = ap (λ (r : ℕ). holder_reported (holder_by has h.heap r)) (sym null)

at_object : (has : ℕ → Bool) (h : LimitedHeap) (r : ℕ) → (r ≡ 0 → ⊥) → holder_by has h.heap r ≡ holder_in has (object_in h r)
at_object has h r some = ap (λ (b : Bool). if b then Null else holder_in has (object_in h r)) (not_null r some)

pub past_holder : (has : ℕ → Bool) (h : LimitedHeap) (r : ℕ) → (r ≡ 0 → ⊥) → length h.heap.objects < r → Err goes.Link ≡ holder_reported (holder_by has h.heap r)
past_holder has h r some past =
    let past_end : slice_get h.heap.objects (r - 1) ≡ None = slice_get_past h.heap.objects (r - 1) (omega (arith, past)) in
    let none : object_in h r ≡ None = ap (λ (b : Bool). if b then None else slice_get h.heap.objects (r - 1)) (not_null r some) ∙ past_end in
    ap (λ (o : Option (Object ℕ)). holder_reported (holder_in has o)) (sym none) ∙ ap holder_reported (sym (at_object has h r some))

array_in : (has : ℕ → Bool) (o : Option (Object ℕ)) (element : Element) → option_map made_as o ≡ Some (made.Array element) → Err goes.Link ≡ holder_reported (holder_in has o)
array_in has None element kind = absurd cc
array_in has (Some (Instance class fields)) element kind = absurd cc
array_in has (Some (Array class of contents)) element kind = refl
array_in has (Some (Text class units)) element kind = refl

text_in : (has : ℕ → Bool) (o : Option (Object ℕ)) → option_map made_as o ≡ Some made.Text → Err goes.Link ≡ holder_reported (holder_in has o)
text_in has None kind = absurd cc
text_in has (Some (Instance class fields)) kind = absurd cc
text_in has (Some (Array class of contents)) kind = refl
text_in has (Some (Text class units)) kind = refl

pub array_holder : (has : ℕ → Bool) (h : LimitedHeap) (r : ℕ) (element : Element) → (r ≡ 0 → ⊥) → option_map made_as (object_in h r) ≡ Some (made.Array element)
    → Err goes.Link ≡ holder_reported (holder_by has h.heap r)
array_holder has h r element some kind = array_in has (object_in h r) element kind ∙ ap holder_reported (sym (at_object has h r some))

pub text_holder : (has : ℕ → Bool) (h : LimitedHeap) (r : ℕ) → (r ≡ 0 → ⊥) → option_map made_as (object_in h r) ≡ Some made.Text
    → Err goes.Link ≡ holder_reported (holder_by has h.heap r)
text_holder has h r some kind = text_in has (object_in h r) kind ∙ ap holder_reported (sym (at_object has h r some))

-- the answer, by whether the class has the field
abbrev reported_if : Bool → ℕ → Result ℕ Flow
reported_if true count = Ok count
reported_if false count = Err goes.Link

if_reported : (b : Bool) (class : ℕ) (fields : List ℕ) → reported_if b (length fields) ≡ holder_reported (if b then Holds class fields else NoHolder)
if_reported true class fields = refl
if_reported false class fields = refl

instance_in : (has : ℕ → Bool) (o : Option (Object ℕ)) (class count : ℕ) → option_map made_as o ≡ Some made.Instance → option_map class_of o ≡ Some class
    → option_map object_length o ≡ Some count → reported_if (has class) count ≡ holder_reported (holder_in has o)
instance_in has None class count kind of many = absurd cc
instance_in has (Some (Instance k fields)) class count kind of many =
    let same : k ≡ class = cc in
    let long : length fields ≡ count = cc in
    ap (λ (k : ℕ). reported_if (has k) count) (sym same) ∙ (ap (reported_if (has k)) (sym long) ∙ if_reported (has k) k fields)
instance_in has (Some (Array k of' contents)) class count kind of many = absurd cc
instance_in has (Some (Text k units)) class count kind of many = absurd cc

pub instance_holder : (has : ℕ → Bool) (h : LimitedHeap) (r class count : ℕ) → (r ≡ 0 → ⊥) → option_map made_as (object_in h r) ≡ Some made.Instance
    → option_map class_of (object_in h r) ≡ Some class → option_map object_length (object_in h r) ≡ Some count → true ≡ has class
    → Ok count ≡ holder_reported (holder_by has h.heap r)
instance_holder has h r class count some kind of many held =
    ap (λ (b : Bool). reported_if b count) held ∙ (instance_in has (object_in h r) class count kind of many ∙ ap holder_reported (sym (at_object has h r some)))

-- without its fields counted
other_in : (has : ℕ → Bool) (o : Option (Object ℕ)) (class : ℕ) → option_map made_as o ≡ Some made.Instance → option_map class_of o ≡ Some class
    → false ≡ has class → Err goes.Link ≡ holder_reported (holder_in has o)
other_in has None class kind of held = absurd cc
other_in has (Some (Instance k fields)) class kind of held =
    let same : k ≡ class = cc in
    ap (λ (b : Bool). holder_reported (if b then Holds k fields else NoHolder)) (held ∙ ap has (sym same))
other_in has (Some (Array k of' contents)) class kind of held = absurd cc
other_in has (Some (Text k units)) class kind of held = absurd cc

pub other_holder : (has : ℕ → Bool) (h : LimitedHeap) (r class : ℕ) → (r ≡ 0 → ⊥) → option_map made_as (object_in h r) ≡ Some made.Instance
    → option_map class_of (object_in h r) ≡ Some class → false ≡ has class → Err goes.Link ≡ holder_reported (holder_by has h.heap r)
other_holder has h r class some kind of held = other_in has (object_in h r) class kind of held ∙ ap holder_reported (sym (at_object has h r some))

fields_of : (heap : Heap ℕ) (r count : ℕ) (o : Option (Object ℕ)) → object_at heap.objects r ≡ o → option_map made_as o ≡ Some made.Instance
    → option_map object_length o ≡ Some count → HasFields heap r count
fields_of heap r count None there kind many = absurd cc
fields_of heap r count (Some (Instance k fields)) there kind many = record { class = k; fields = fields; object = there; many = cc }
fields_of heap r count (Some (Array k of contents)) there kind many = absurd cc
fields_of heap r count (Some (Text k units)) there kind many = absurd cc

pub has_fields : (h : LimitedHeap) (r count : ℕ) → option_map made_as (object_in h r) ≡ Some made.Instance → option_map object_length (object_in h r) ≡ Some count
    → HasFields h.heap r count
has_fields h r count kind many = fields_of h.heap r count (object_in h r) refl kind many

-- ---- an instance that is found

held_if : (b a : Bool) (class : ℕ) (fields : List ℕ) (count : ℕ) → Ok count ≡ holder_reported (if b then Null else if a then Holds class fields else NoHolder)
    → (if b then Null else if a then Holds class fields else NoHolder) ≡ Holds class fields
held_if true a class fields count e = absurd cc
held_if false false class fields count e = absurd cc
held_if false true class fields count e = refl

pub held : (has : ℕ → Bool) (heap : Heap ℕ) (r count : ℕ) (f : HasFields heap r count) → Ok count ≡ holder_reported (holder_by has heap r)
    → holder_by has heap r ≡ Holds f.class f.fields
held has heap r count f e =
    let there : holder_by has heap r ≡ (if nat_eq r 0 then Null else if has f.class then Holds f.class f.fields else NoHolder) =
    ap (λ (o : Option (Object ℕ)). if nat_eq r 0 then Null else holder_in has o) f.object in
    there ∙ held_if (nat_eq r 0) (has f.class) f.class f.fields count (e ∙ ap holder_reported there)
