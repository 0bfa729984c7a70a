-- What instructions make of a heap whose objects are known: they are known still.
use Rattle.std.proofs.Common.{◌≡◌, ◌+◌, ◌-◌, ◌<◌, ◌++◌, ℕ, ℤ, pos, negsuc, Bool, true, false, List, [], ◌∷◌, length, set, replicate, Option, Some, None, nat_eq, if◌then◌else◌, Ok, Err, refl, ap, subst}
use Rattle.std.specs.Prelude.{⊤, slice_get}
use Rattle.std.specs.List.{All}
use Rattle.std.proofs.lemmas.List.Elements.{All-get_or, All-push, All-set, All-weaker}
use Rattle.std.proofs.lemmas.Option.{get_or_from_slice_get, slice_get_within}
use Rattle.dj_names.specs.declared.descriptor.Kind.{Kind}
use Rattle.dj_names.specs.declared.descriptor.Ty.{Ty}
use Rattle.dj_names.specs.declared.run.Element.{Element}
use Rattle.dj_names.specs.declared.run.Element.TheVariants as elements
use Rattle.dj_names.specs.declared.run.Outcome.TheVariants as outcomes
use Rattle.dj_names.specs.declared.run.Value.{Value}
use Rattle.dj_names.specs.declared.run.Value.TheVariants as values
use Rattle.dj_names.specs.trusted.Heaps.{Object, Instance, Array, Text, Heap, array_size, class_of, field_bits, kept, next_number, object_at, object_size, text_size, value_number, with_element, with_new, with_object}
use Rattle.dj_library_types.specs.Numbered.{type_at, holds_references}
use Rattle.dj_model.specs.trusted.Instructions.{Access}
use Rattle.dj_model.specs.trusted.Numbers.{is_of_kind}
use Rattle.dj_model.specs.trusted.State.{Next}
use Rattle.dj_model.specs.trusted.Arrays as arrays
use Rattle.dj_model.specs.trusted.Arrays.{Found, Null, NoArray, IsArray, OnHeap, access_kind, array_at, array_in, flows, is_taken, only, passes_limit, reaches, with_value}
use Rattle.dj_heap.specs.Heaps.{LimitedHeap}
use Rattle.dj_stack.specs.Frames.{StackFrame, top_operands}
use Rattle.dj_effects.specs.DoesOnHeap.{DoesOnHeap}
use Rattle.dj_effects.specs.declared.way.Flow.{Flow}
use Rattle.dj_member_effects.specs.Fields as fields_of
use Rattle.dj_member_effects.specs.Fields.{Holder, Holds, NoHolder, holder_by, holder_in, put_field_by}
use Rattle.dj_member_effects.specs.Literals.{DoesOnLiterals, LiteralTable, OnLiterals, literal_flows, object_of, push_text_by, pushed}
use Rattle.dj_member_effects.specs.Numbering.{AreNumbered}
use Rattle.dj_member_effects.specs.Objects.{new_by}
use Rattle.dj_natives.specs.Known.{AreKnown, IsClassType, IsKnown}
use Rattle.dj_image_effects.specs.Elements.{HoldsElements}

-- ---- an object by its number

found_there : {X : Type 0} (b : Bool) (found : Option X) (x : X) → (if b then None else found) ≡ Some x → found ≡ Some x
found_there true found x e = absurd cc
found_there false found x e = e

known_at : (types : List Ty) (h : LimitedHeap) → AreKnown types h → (r : ℕ) (object : Object ℕ) → object_at h.heap.objects r ≡ Some object → IsKnown types object
known_at types h known r object at =
    let there : slice_get h.heap.objects (r - 1) ≡ Some object = found_there (nat_eq r 0) (slice_get h.heap.objects (r - 1)) object at in
    subst (IsKnown types) (get_or_from_slice_get h.heap.objects (r - 1) object object there)
    (All-get_or (IsKnown types) h.heap.objects (r - 1) object (slice_get_within h.heap.objects (r - 1) object there) known)

-- ---- what is known of the classes of objects

pub classes_numbered : (types : List Ty) (h : LimitedHeap) → AreKnown types h → AreNumbered (length types) h.heap
classes_numbered types h known =
    All-weaker (IsKnown types) (λ object. class_of object < length types) (λ object is. is.class) h.heap.objects known

pub instance_named : (types : List Ty) (h : LimitedHeap) → AreKnown types h → (r class : ℕ) (fields : List ℕ) → object_at h.heap.objects r ≡ Some (Instance class fields) → IsClassType (type_at types class)
instance_named types h known r class fields at = (known_at types h known r (Instance class fields) at).holds

pub array_holds : (types : List Ty) (h : LimitedHeap) → AreKnown types h → (r class : ℕ) (contents : List ℤ) → object_at h.heap.objects r ≡ Some (Array class elements.Ref contents)
    → holds_references (type_at types class) ≡ true
array_holds types h known r class contents at = (known_at types h known r (Array class elements.Ref contents) at).holds refl

-- ---- one object more, and another in the place of one

abbrev pub AllKnown : List Ty → Heap ℕ → Type 0
AllKnown types heap = All (IsKnown types) heap.objects

module _ (types : List Ty) (heap : Heap ℕ) (known : AllKnown types heap) where
  made_known : (object : Object ℕ) → IsKnown types object → AllKnown types (with_new heap object)
  made_known object is = All-push (IsKnown types) heap.objects object known is

  replaced_known : (r : ℕ) (object : Object ℕ) → IsKnown types object → AllKnown types (with_object heap r object)
  replaced_known r object is = All-set (IsKnown types) heap.objects (r - 1) object is known

  -- ---- elements

  array_found : (o : Option (Object ℕ)) (class : ℕ) (element : Element) (contents : List ℤ) → array_in o ≡ IsArray class element contents → o ≡ Some (Array class element contents)
  array_found None class element contents e = absurd cc
  array_found (Some (Instance c fields)) class element contents e = absurd cc
  array_found (Some (Array c other d)) class element contents e = ap object_of_found e where
    object_of_found : Found ℕ → Option (Object ℕ)
    object_of_found (IsArray class element contents) = Some (Array class element contents)
    object_of_found found = None
  array_found (Some (Text c units)) class element contents e = absurd cc

  array_there : (r class : ℕ) (element : Element) (contents : List ℤ) → array_at heap r ≡ IsArray class element contents → object_at heap.objects r ≡ Some (Array class element contents)
  array_there r class element contents e = by (nat_eq r 0) refl e where
    by : (b : Bool) → nat_eq r 0 ≡ b → (if b then Null else array_in (object_at heap.objects r)) ≡ IsArray class element contents → object_at heap.objects r ≡ Some (Array class element contents)
    by true z f = absurd cc
    by false z f = array_found (object_at heap.objects r) class element contents f

  array_known : (limit r class : ℕ) (element : Element) (contents : List ℤ) → array_at heap r ≡ IsArray class element contents → IsKnown types (Array class element contents)
  array_known limit r class element contents e =
      known_at types (record { heap = heap; limit = limit }) known r (Array class element contents) (array_there r class element contents e)

  store_at_known : (operands rest : List Value) (r : ℕ) (array : Object ℕ) (o : Option ℤ) (takes : Bool) → IsKnown types array
      → AllKnown types (arrays.store_at heap operands rest r array o takes).heap
  store_at_known operands rest r array None takes is = known
  store_at_known operands rest r array (Some z) true is = replaced_known r array is
  store_at_known operands rest r array (Some z) false is = known

  store_in_known : (access : Access) (operands rest : List Value) (r : ℕ) (index : ℤ) (v : Value) (takes : Bool) (found : Found ℕ) → array_at heap r ≡ found → AllKnown types (arrays.store_in heap operands rest r index v takes (only access found)).heap
  store_in_known access operands rest r index v takes Null at = known
  store_in_known access operands rest r index v takes NoArray at = known
  store_in_known access operands rest r index v takes (IsArray class element contents) at = by (reaches access element) refl where
    old : IsKnown types (Array class element contents)
    old = array_known 0 r class element contents at

    by : (b : Bool) → reaches access element ≡ b → AllKnown types (arrays.store_in heap operands rest r index v takes (if b then IsArray class element contents else NoArray)).heap
    by false e = known
    by true e =
        store_at_known operands rest r (Array class element (with_element contents index (kept element (value_number v)))) _ takes
        (record { class = old.class; holds = old.holds })

-- ---- what an effect leaves

abbrev pub LeavesKnown : List Ty → Option (OnHeap ℕ) → Type 0
LeavesKnown types None = ⊤
LeavesKnown types (Some e) = AllKnown types e.heap

pub known_after : (types : List Ty) (effect_of : Heap ℕ → List Value → Option (OnHeap ℕ)) (old new : List StackFrame) (before after : LimitedHeap) (flow : Flow)
    → DoesOnHeap effect_of old new before after (Some flow) → LeavesKnown types (effect_of before.heap (top_operands old)) → AreKnown types after
known_after types effect_of old new before after flow does known = subst (LeavesKnown types) does.effect known

if_known : (types : List Ty) (b : Bool) (e : OnHeap ℕ) → (b ≡ true → AllKnown types e.heap) → LeavesKnown types (if b then Some e else None)
if_known types true e known = known refl
if_known types false e known = tt

store_leaves : (types : List Ty) (heap : Heap ℕ) → AllKnown types heap → (takes : ℕ → ℕ → Bool) (access : Access) (operands : List Value)
    → LeavesKnown types (arrays.store_element takes access heap operands)
unfolding arrays.store_element
store_leaves types heap known takes access (v ∷ (values.Int index ∷ (values.Ref r ∷ rest))) =
    if_known types (is_of_kind (access_kind access) v) _
    (λ is. store_in_known types heap known access (v ∷ (values.Int index ∷ (values.Ref r ∷ rest))) rest r index v (is_taken takes r v) (array_at heap r) refl)
store_leaves types heap known takes access _ = tt

pub store_known : (types : List Ty) (takes : ℕ → ℕ → Bool) (access : Access) (old new : List StackFrame) (before after : LimitedHeap) (flow : Flow) → AreKnown types before
    → DoesOnHeap (arrays.store_element takes access) old new before after (Some flow) → AreKnown types after
store_known types takes access old new before after flow known does =
    known_after types (arrays.store_element takes access) old new before after flow does (store_leaves types before.heap known takes access (top_operands old))

-- ---- fields

module _ (types : List Ty) (heap : Heap ℕ) (known : AllKnown types heap) (has : ℕ → Bool) where
  holder_found : (o : Option (Object ℕ)) (class : ℕ) (fields : List ℕ) → holder_in has o ≡ Holds class fields → o ≡ Some (Instance class fields)
  holder_found None class fields e = absurd cc
  holder_found (Some (Array c element d)) class fields e = absurd cc
  holder_found (Some (Text c units)) class fields e = absurd cc
  holder_found (Some (Instance c own)) class fields e = by (has c) e where
    instance_of : Holder → Option (Object ℕ)
    instance_of (Holds class fields) = Some (Instance class fields)
    instance_of _ = None

    by : (b : Bool) → (if b then Holds c own else NoHolder) ≡ Holds class fields → Some (Instance c own) ≡ Some (Instance class fields)
    by true f = ap instance_of f
    by false f = absurd cc

  holder_there : (r class : ℕ) (fields : List ℕ) → holder_by has heap r ≡ Holds class fields → object_at heap.objects r ≡ Some (Instance class fields)
  holder_there r class fields e = by (nat_eq r 0) refl e where
    by : (b : Bool) → nat_eq r 0 ≡ b → (if b then fields_of.Null else holder_in has (object_at heap.objects r)) ≡ Holds class fields → object_at heap.objects r ≡ Some (Instance class fields)
    by true z f = absurd cc
    by false z f = holder_found (object_at heap.objects r) class fields f

  put_in_known : (operands rest : List Value) (place r : ℕ) (v : Value) (holder : Holder) → holder_by has heap r ≡ holder → AllKnown types (fields_of.put_in heap operands rest place r v holder).heap
  put_in_known operands rest place r v fields_of.Null e = known
  put_in_known operands rest place r v NoHolder e = known
  put_in_known operands rest place r v (Holds class fields) e =
      let old : IsKnown types (Instance class fields) =
      known_at types (record { heap = heap; limit = 0 }) known r (Instance class fields) (holder_there r class fields e) in
      replaced_known types heap known r (Instance class (set fields place (field_bits v))) (record { class = old.class; holds = old.holds })

  put_leaves : (kind : Kind) (place : ℕ) (operands : List Value) → LeavesKnown types (put_field_by has kind place heap operands)
  unfolding put_field_by
  put_leaves kind place (v ∷ (values.Ref r ∷ rest)) =
      if_known types (is_of_kind kind v) _ (λ is. put_in_known (v ∷ (values.Ref r ∷ rest)) rest place r v (holder_by has heap r) refl)
  put_leaves kind place _ = tt

pub put_known : (types : List Ty) (has : ℕ → Bool) (kind : Kind) (place : ℕ) (old new : List StackFrame) (before after : LimitedHeap) (flow : Flow) → AreKnown types before
    → DoesOnHeap (put_field_by has kind place) old new before after (Some flow) → AreKnown types after
put_known types has kind place old new before after flow known does =
    known_after types (put_field_by has kind place) old new before after flow does (put_leaves types before.heap known has kind place (top_operands old))

-- ---- new objects

made_if : (types : List Ty) (heap : Heap ℕ) → AllKnown types heap → (full : Bool) (operands rest : List Value) (object : Object ℕ) (size : ℕ) → IsKnown types object
    → AllKnown types (if full then flows heap operands (Err (outcomes.HeapFull heap.used size)) else with_value (with_new heap object) rest (values.Ref (next_number heap))).heap
made_if types heap known true operands rest object size is = known
made_if types heap known false operands rest object size is = made_known types heap known object is

pub new_known : (types : List Ty) (limit : Option ℕ) (class fields : ℕ) (old new : List StackFrame) (before after : LimitedHeap) (flow : Flow) → AreKnown types before
    → class < length types → IsClassType (type_at types class) → DoesOnHeap (new_by limit class fields) old new before after (Some flow) → AreKnown types after
new_known types limit class fields old new before after flow known within is does =
    known_after types (new_by limit class fields) old new before after flow does
    (made_if types before.heap known (passes_limit limit (before.heap.used + object_size (Instance class (replicate fields 0)))) (top_operands old) (top_operands old)
    (Instance class (replicate fields 0)) (object_size (Instance class (replicate fields 0))) (record { class = within; holds = is }))

array_leaves : (types : List Ty) (heap : Heap ℕ) → AllKnown types heap → (limit : Option ℕ) (class : ℕ) (element : Element) (operands : List Value) → class < length types → HoldsElements types class element
    → LeavesKnown types (arrays.make_array limit class element heap operands)
unfolding arrays.make_array
array_leaves types heap known limit class element (values.Int (pos n) ∷ rest) within holds = by (passes_limit limit (heap.used + array_size element n)) where
  by : (full : Bool) → AllKnown types (arrays.make_elements full class element heap (values.Int (pos n) ∷ rest) rest n).heap
  by true = known
  by false =
      made_known types heap known (Array class element (replicate n (pos 0)))
      (record { class = within; holds = holds })
array_leaves types heap known limit class element (values.Int (negsuc n) ∷ rest) within holds = known
array_leaves types heap known limit class element _ within holds = tt

pub array_known_after : (types : List Ty) (limit : Option ℕ) (class : ℕ) (element : Element) (old new : List StackFrame) (before after : LimitedHeap) (flow : Flow) → AreKnown types before
    → class < length types → HoldsElements types class element → DoesOnHeap (arrays.make_array limit class element) old new before after (Some flow) → AreKnown types after
array_known_after types limit class element old new before after flow known within holds does =
    known_after types (arrays.make_array limit class element) old new before after flow does (array_leaves types before.heap known limit class element (top_operands old) within holds)

-- ---- literals

pub text_known : (types : List Ty) (limit : Option ℕ) (class text : ℕ) (units : List ℕ) (old new : List StackFrame) (before after : LimitedHeap) (literals now : LiteralTable) (flow : Flow)
    → AreKnown types before → class < length types → DoesOnLiterals (push_text_by limit class text units) old new before after literals now flow → AreKnown types after
text_known types limit class text units old new before after literals now flow known within does =
    subst (λ (e : OnLiterals). AllKnown types e.heap) does.effect (by (object_of literals.made text)) where
      by_limit : (full : Bool) → AllKnown types (if full then literal_flows before.heap literals.made (top_operands old) (Err (outcomes.HeapFull before.heap.used (text_size units)))
          else literal_flows (with_new before.heap (Text class units)) (literals.made ++ (text, next_number before.heap) ∷ []) (values.Ref (next_number before.heap) ∷ top_operands old) (Ok Next)).heap
      by_limit true = known
      by_limit false = made_known types before.heap known (Text class units) (record { class = within; holds = tt })

      by : (o : Option ℕ) → AllKnown types (pushed limit class text units before.heap literals.made (top_operands old) o).heap
      by (Some r) = known
      by None = by_limit (passes_limit limit (before.heap.used + text_size units))
