-- Instructions on arrays, and what native methods see and do, whatever stands for the classes of objects.
use Rattle.std.proofs.Common.{◌≡◌, ℕ, ◌+◌, ◌-◌, Bool, true, false, ℤ, pos, negsuc, List, [], ◌∷◌, map, replicate, Option, Some, None, nat_eq, refl, ap, ◌∙◌, inl, inr}
use Rattle.std.proofs.lemmas.List.{map-append, map-set, length-map}
use Rattle.std.proofs.lemmas.Option.{slice_get-map}
use Rattle.std.specs.Option.{option_map}
use Rattle.std.specs.Prelude.{slice_get}
use Rattle.dj_names.specs.declared.run.Value.{Value}
use Rattle.dj_names.specs.declared.run.Value.TheVariants as values
use Rattle.dj_names.specs.declared.run.Element.{Element}
use Rattle.dj_names.specs.trusted.Heaps.{Object, Instance, Array, Text, Heap, class_of, object_at, object_size, with_new, with_object, next_number, element_at, with_element, kept, value_number, array_size}
use Rattle.dj_names.specs.Heaps.{object_map, heap_map}
use Rattle.dj_model.specs.trusted.Instructions.{Access}
use Rattle.dj_model.specs.trusted.Numbers.{is_of_kind}
use Rattle.dj_model.specs.trusted.Arrays.{reaches, access_kind, Found, Null, NoArray, IsArray, array_in, array_at, only, load_at, load_from, load_element, store_at, store_in, is_taken, store_element, length_of, array_length, passes_limit, make, make_elements, make_array}
use Rattle.dj_model.specs.Arrays.{on_heap_map}
use Rattle.dj_model.proofs.MappedNames.{either}

module _ {C D : Type 0} (h : C → D) where
  pub object_at_mapped : (objects : List (Object C)) (r : ℕ) → object_at (map (object_map h) objects) r ≡ option_map (object_map h) (object_at objects r)
  object_at_mapped objects r = elim (either (nat_eq r 0)) [
    | inl e ↦ rw e refl
    | inr e ↦ rw e (slice_get-map (object_map h) objects (r - 1))
  ]

  pub class_of_mapped : (o : Object C) → class_of (object_map h o) ≡ h (class_of o)
  class_of_mapped (Instance class fields) = refl
  class_of_mapped (Array class element contents) = refl
  class_of_mapped (Text class units) = refl

  pub size_alike : (o : Object C) → object_size (object_map h o) ≡ object_size o
  size_alike (Instance class fields) = refl
  size_alike (Array class element contents) = refl
  size_alike (Text class units) = refl

  pub new_mapped : (heap : Heap C) (o : Object C) → with_new (heap_map h heap) (object_map h o) ≡ heap_map h (with_new heap o)
  new_mapped heap o = rw (size_alike o, map-append (object_map h) heap.objects (o ∷ [])) refl

  pub number_alike : (heap : Heap C) → next_number (heap_map h heap) ≡ next_number heap
  number_alike heap = rw (length-map heap.objects (object_map h)) refl

  pub object_set : (heap : Heap C) (r : ℕ) (o : Object C) → with_object (heap_map h heap) r (object_map h o) ≡ heap_map h (with_object heap r o)
  object_set heap r o = rw (map-set (object_map h) heap.objects (r - 1) o) refl

  -- ---- arrays

  abbrev pub found_array : Found C → Found D
  found_array Null = Null
  found_array NoArray = NoArray
  found_array (IsArray class element contents) = IsArray (h class) element contents

  array_in_mapped : (o : Option (Object C)) → array_in (option_map (object_map h) o) ≡ found_array (array_in o)
  array_in_mapped None = refl
  array_in_mapped (Some (Instance class fields)) = refl
  array_in_mapped (Some (Array class element contents)) = refl
  array_in_mapped (Some (Text class units)) = refl

  pub array_at_mapped : (heap : Heap C) (r : ℕ) → array_at (heap_map h heap) r ≡ found_array (array_at heap r)
  array_at_mapped heap r = elim (either (nat_eq r 0)) [
    | inl e ↦ rw e refl
    | inr e ↦ rw e (ap array_in (slice_get-map (object_map h) heap.objects (r - 1)) ∙ array_in_mapped (slice_get heap.objects (r - 1)))
  ]

  only_mapped : (access : Access) (found : Found C) → only access (found_array found) ≡ found_array (only access found)
  only_mapped access Null = refl
  only_mapped access NoArray = refl
  only_mapped access (IsArray class element contents) = elim (either (reaches access element)) [ inl e ↦ rw e refl | inr e ↦ rw e refl ]

  load_at_mapped : (heap : Heap C) (operands rest : List Value) (element : Element) (z : Option ℤ)
      → load_at (heap_map h heap) operands rest element z ≡ on_heap_map h (load_at heap operands rest element z)
  load_at_mapped heap operands rest element None = refl
  load_at_mapped heap operands rest element (Some z) = refl

  load_from_mapped : (heap : Heap C) (operands rest : List Value) (index : ℤ) (found : Found C)
      → load_from (heap_map h heap) operands rest index (found_array found) ≡ on_heap_map h (load_from heap operands rest index found)
  load_from_mapped heap operands rest index Null = refl
  load_from_mapped heap operands rest index NoArray = refl
  load_from_mapped heap operands rest index (IsArray class element contents) = load_at_mapped heap operands rest element (element_at contents index)

  pub load_mapped : (access : Access) (heap : Heap C) (operands : List Value)
      → load_element access (heap_map h heap) operands ≡ option_map (on_heap_map h) (load_element access heap operands)
  unfolding load_element
  load_mapped access heap (values.Int index ∷ (values.Ref r ∷ rest)) =
      rw (array_at_mapped heap r, only_mapped access (array_at heap r))
      (ap Some (load_from_mapped heap (values.Int index ∷ (values.Ref r ∷ rest)) rest index (only access (array_at heap r))))
  load_mapped access heap _ = refl

  store_at_mapped : (heap : Heap C) (operands rest : List Value) (r : ℕ) (array : Object C) (z : Option ℤ) (takes : Bool)
      → store_at (heap_map h heap) operands rest r (object_map h array) z takes ≡ on_heap_map h (store_at heap operands rest r array z takes)
  store_at_mapped heap operands rest r array None takes = refl
  store_at_mapped heap operands rest r array (Some z) true = rw (map-set (object_map h) heap.objects (r - 1) array) refl
  store_at_mapped heap operands rest r array (Some z) false = refl

  store_in_mapped : (heap : Heap C) (operands rest : List Value) (r : ℕ) (index : ℤ) (v : Value) (takes : Bool) (found : Found C)
      → store_in (heap_map h heap) operands rest r index v takes (found_array found) ≡ on_heap_map h (store_in heap operands rest r index v takes found)
  store_in_mapped heap operands rest r index v takes Null = refl
  store_in_mapped heap operands rest r index v takes NoArray = refl
  store_in_mapped heap operands rest r index v takes (IsArray class element contents) =
      store_at_mapped heap operands rest r (Array class element (with_element contents index (kept element (value_number v)))) (element_at contents index) takes

  is_taken_alike : (a b : ℕ → ℕ → Bool) → ((x y : ℕ) → b x y ≡ a x y) → (r : ℕ) (v : Value) → is_taken b r v ≡ is_taken a r v
  is_taken_alike a b e r (values.Int z) = refl
  is_taken_alike a b e r (values.Long z) = refl
  is_taken_alike a b e r (values.Ref v) = e r v

  pub store_mapped : (a b : ℕ → ℕ → Bool) → ((x y : ℕ) → b x y ≡ a x y) → (access : Access) (heap : Heap C) (operands : List Value)
      → store_element b access (heap_map h heap) operands ≡ option_map (on_heap_map h) (store_element a access heap operands)
  unfolding store_element
  store_mapped a b e access heap (v ∷ (values.Int index ∷ (values.Ref r ∷ rest))) = elim (either (is_of_kind (access_kind access) v)) [
    | inl kind ↦ rw (kind, array_at_mapped heap r, only_mapped access (array_at heap r), is_taken_alike a b e r v)
        (ap Some (store_in_mapped heap (v ∷ (values.Int index ∷ (values.Ref r ∷ rest))) rest r index v (is_taken a r v) (only access (array_at heap r))))
    | inr other ↦ rw other refl
  ]
  store_mapped a b e access heap _ = refl

  length_of_mapped : (heap : Heap C) (operands rest : List Value) (found : Found C)
      → length_of (heap_map h heap) operands rest (found_array found) ≡ on_heap_map h (length_of heap operands rest found)
  length_of_mapped heap operands rest Null = refl
  length_of_mapped heap operands rest NoArray = refl
  length_of_mapped heap operands rest (IsArray class element contents) = refl

  pub length_mapped : (heap : Heap C) (operands : List Value) → array_length (heap_map h heap) operands ≡ option_map (on_heap_map h) (array_length heap operands)
  unfolding array_length
  length_mapped heap (values.Ref r ∷ rest) = rw (array_at_mapped heap r) (ap Some (length_of_mapped heap (values.Ref r ∷ rest) rest (array_at heap r)))
  length_mapped heap _ = refl

  -- ---- new objects

  pub make_mapped : (limit : Option ℕ) (heap : Heap C) (operands rest : List Value) (o : Object C)
      → make limit (heap_map h heap) operands rest (object_map h o) ≡ on_heap_map h (make limit heap operands rest o)
  make_mapped limit heap operands rest o =
      rw (size_alike o, ← map-append (object_map h) heap.objects (o ∷ []), length-map heap.objects (object_map h))
      (elim (either (passes_limit limit (heap.used + object_size o))) [ inl e ↦ rw e refl | inr e ↦ rw e refl ])

  make_elements_mapped : (full : Bool) (class : C) (element : Element) (heap : Heap C) (operands rest : List Value) (n : ℕ)
      → make_elements full (h class) element (heap_map h heap) operands rest n ≡ on_heap_map h (make_elements full class element heap operands rest n)
  make_elements_mapped true class element heap operands rest n = refl
  make_elements_mapped false class element heap operands rest n =
      rw (← map-append (object_map h) heap.objects (Array class element (replicate n (pos 0)) ∷ []), length-map heap.objects (object_map h)) refl

  pub make_array_mapped : (limit : Option ℕ) (class : C) (element : Element) (heap : Heap C) (operands : List Value)
      → make_array limit (h class) element (heap_map h heap) operands ≡ option_map (on_heap_map h) (make_array limit class element heap operands)
  unfolding make_array
  make_array_mapped limit class element heap (values.Int (pos n) ∷ rest) =
      ap Some (make_elements_mapped (passes_limit limit (heap.used + array_size element n)) class element heap (values.Int (pos n) ∷ rest) rest n)
  make_array_mapped limit class element heap (values.Int (negsuc n) ∷ rest) = refl
  make_array_mapped limit class element heap _ = refl
