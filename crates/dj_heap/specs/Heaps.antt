-- A heap with a limit, and what is at a place of one of its objects.
use Rattle.std.specs.Prelude.{◌≡◌, ℕ, ◌+◌, ◌^◌, ◌<◌, ◌≤◌, ⊤, ℤ, pos, List, [], set, Option, Some, None, option_and_then, slice_get}
use Rattle.std.specs.Int.{int_rem_euclid}
use Rattle.dj_names.specs.declared.run.Element.{Element}
use Rattle.dj_names.specs.declared.run.Element.TheVariants as elements
use Rattle.dj_names.specs.trusted.Heaps.{Object, Instance, Array, Text, Heap, kept, object_at, object_size, with_new, with_object, next_number}
use Rattle.dj_heap.specs.declared.errors.HeapError.{HeapError}
use Rattle.dj_heap.specs.declared.errors.HeapError.TheVariants as errors

-- objects by the numbers of their classes, and how many bytes they may take together
pub record LimitedHeap : Type 0 where
  pub heap : Heap ℕ
  pub limit : ℕ

-- ---- what is at a place

abbrev pub object_in : LimitedHeap → ℕ → Option (Object ℕ)
object_in h r = object_at h.heap.objects r

abbrev pub fields_of : Object ℕ → Option (List ℕ)
fields_of (Instance class fields) = Some fields
fields_of _ = None

abbrev pub contents_of : Object ℕ → Option (List ℤ)
contents_of (Array class element contents) = Some contents
contents_of _ = None

abbrev pub units_of : Object ℕ → Option (List ℕ)
units_of (Text class units) = Some units
units_of _ = None

abbrev pub field_in : LimitedHeap → ℕ → ℕ → Option ℕ
field_in h r at = option_and_then (λ fields. slice_get fields at) (option_and_then fields_of (object_in h r))

abbrev pub element_in : LimitedHeap → ℕ → ℕ → Option ℤ
element_in h r at = option_and_then (λ contents. slice_get contents at) (option_and_then contents_of (object_in h r))

abbrev pub unit_in : LimitedHeap → ℕ → ℕ → Option ℕ
unit_in h r at = option_and_then (λ units. slice_get units at) (option_and_then units_of (object_in h r))

-- ---- writes

-- what an element of an array keeps of a number: the low bits of its width
abbrev pub low_bits : Element → ℤ → ℤ
low_bits elements.Ref z = int_rem_euclid z (pos (2 ^ 32))
low_bits element z = kept element z

-- the elements of an array; an object that is no array has none
abbrev pub elements_of : Object ℕ → List ℤ
elements_of (Array class element contents) = contents
elements_of object = []

-- a number that the object, where it is an array, keeps as it is
abbrev pub IsKeptIn : Option (Object ℕ) → ℤ → Type 0
IsKeptIn (Some (Array class element contents)) z = low_bits element z ≡ z
IsKeptIn object z = ⊤

-- an instance with another field
abbrev pub with_field : Object ℕ → ℕ → ℕ → Object ℕ
with_field (Instance class fields) at bits = Instance class (set fields at bits)
with_field object at bits = object

-- an array with another element
abbrev pub with_number : Object ℕ → ℕ → ℤ → Object ℕ
with_number (Array class element contents) at z = Array class element (set contents at (low_bits element z))
with_number object at z = object

-- the object of the number is another, and all else is as before
abbrev pub Replaces : LimitedHeap → LimitedHeap → ℕ → (Object ℕ → Object ℕ) → Type 0
Replaces old new r change =
    (object : Object ℕ) → object_in old r ≡ Some object → new ≡ record old { heap = with_object old.heap r (change object) }

-- ---- allocations

-- one object more, with the next number, where it fits
pub record Makes (old new : LimitedHeap) (object : Object ℕ) (r : ℕ) : Type 0 where
  pub fits : old.heap.used + object_size object ≤ old.limit
  pub number : r ≡ next_number old.heap
  pub heap : new ≡ record old { heap = with_new old.heap object }

-- an object of this many bytes doesn't fit, or there is no memory
abbrev pub Refuses : LimitedHeap → ℕ → HeapError → Type 0
Refuses h bytes (errors.Full used size) = (used ≡ h.heap.used) × (size ≡ bytes) × (h.limit < h.heap.used + bytes)
Refuses h bytes errors.Memory = Unit {0}
