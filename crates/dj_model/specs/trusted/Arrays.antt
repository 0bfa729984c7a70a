-- Instructions on arrays (JVMS 6.5). C is what says an object's class: a type or a number.
use Rattle.std.specs.Prelude.{Result, Ok, Err, ℕ, ◌+◌, Bool, true, false, ℤ, pos, negsuc, List, ◌∷◌, length, replicate, Option, Some, None, nat_eq, nat_lt, if◌then◌else◌}
use Rattle.dj_names.specs.declared.descriptor.Kind.{Kind}
use Rattle.dj_names.specs.declared.descriptor.Kind.TheVariants as kinds
use Rattle.dj_names.specs.declared.run.Value.{Value}
use Rattle.dj_names.specs.declared.run.Value.TheVariants as values
use Rattle.dj_names.specs.declared.run.Element.{Element}
use Rattle.dj_names.specs.declared.run.Element.TheVariants as elements
use Rattle.dj_names.specs.declared.run.Raised.TheVariants as raises
use Rattle.dj_names.specs.declared.run.Outcome.{Outcome}
use Rattle.dj_names.specs.declared.run.Outcome.TheVariants as outcomes
use Rattle.dj_names.specs.trusted.Heaps.{Object, Array, Heap, object_at, object_size, array_size, with_new, next_number, with_object, element_at, with_element, element_value, kept, value_number}
use Rattle.dj_model.specs.trusted.Instructions.{Access, Bytes, Chars, Shorts, Ints, Longs, References}
use Rattle.dj_model.specs.trusted.Numbers.{is_of_kind}
use Rattle.dj_model.specs.trusted.State.{Way, Next, Raise}

-- what such an instruction leaves, and how the run goes on
pub record OnHeap (C : Type 0) : Type 0 where
  pub heap : Heap C
  -- the top first
  pub operands : List Value
  -- how the run goes on, or its outcome where it ends
  pub result : Result Way Outcome

abbrev pub with_value : {C : Type 0} → Heap C → List Value → Value → OnHeap C
with_value heap rest v = record { heap = heap; operands = v ∷ rest; result = Ok Next }

abbrev pub flows : {C : Type 0} → Heap C → List Value → Result Way Outcome → OnHeap C
flows heap operands result = record { heap = heap; operands = operands; result = result }

-- ---- which arrays an access reaches

-- baload and bastore reach arrays of bytes and of booleans, every other access arrays of one kind of element
abbrev pub reaches : Access → Element → Bool
reaches Bytes elements.Boolean = true
reaches Bytes elements.Byte = true
reaches Chars elements.Char = true
reaches Shorts elements.Short = true
reaches Ints elements.Int = true
reaches Longs elements.Long = true
reaches References elements.Ref = true
reaches _ _ = false

-- the kind of the values that are loaded and stored
abbrev pub access_kind : Access → Kind
access_kind Longs = kinds.Long
access_kind References = kinds.Ref
access_kind _ = kinds.Int

-- what a reference is where an array is wanted
pub data Found (C : Type 0) : Type 0 where
  Null : Found C
  NoArray : Found C
  IsArray : C → Element → List ℤ → Found C

abbrev pub array_in : {C : Type 0} → Option (Object C) → Found C
array_in (Some (Array class element contents)) = IsArray class element contents
array_in _ = NoArray

abbrev pub array_at : {C : Type 0} → Heap C → ℕ → Found C
array_at heap r = if nat_eq r 0 then Null else array_in (object_at heap.objects r)

-- an array that the access doesn't reach counts as no array
abbrev pub only : {C : Type 0} → Access → Found C → Found C
only access (IsArray class element contents) = if reaches access element then IsArray class element contents else NoArray
only access found = found

-- ---- loads and stores: first whether the reference is null, then whether it is an array that is reached, then the index, and last whether the array takes the value

abbrev pub load_at : {C : Type 0} → Heap C → List Value → List Value → Element → Option ℤ → OnHeap C
load_at heap operands rest element None = flows heap operands (Ok (Raise raises.ArrayIndexOutOfBounds))
load_at heap operands rest element (Some z) = with_value heap rest (element_value element z)

abbrev pub load_from : {C : Type 0} → Heap C → List Value → List Value → ℤ → Found C → OnHeap C
load_from heap operands rest index Null = flows heap operands (Ok (Raise raises.NullPointer))
load_from heap operands rest index NoArray = flows heap operands (Err outcomes.Link)
load_from heap operands rest index (IsArray class element contents) = load_at heap operands rest element (element_at contents index)

unfoldable pub load_element : {C : Type 0} → Access → Heap C → List Value → Option (OnHeap C)
load_element access heap (values.Int index ∷ (values.Ref r ∷ rest)) =
    Some (load_from heap (values.Int index ∷ (values.Ref r ∷ rest)) rest index (only access (array_at heap r)))
load_element access heap _ = None

abbrev pub store_at : {C : Type 0} → Heap C → List Value → List Value → ℕ → Object C → Option ℤ → Bool → OnHeap C
store_at heap operands rest r array None takes = flows heap operands (Ok (Raise raises.ArrayIndexOutOfBounds))
store_at heap operands rest r array (Some old) takes =
    if takes then flows (with_object heap r array) rest (Ok Next) else flows heap operands (Ok (Raise raises.ArrayStore))

abbrev pub store_in : {C : Type 0} → Heap C → List Value → List Value → ℕ → ℤ → Value → Bool → Found C → OnHeap C
store_in heap operands rest r index v takes Null = flows heap operands (Ok (Raise raises.NullPointer))
store_in heap operands rest r index v takes NoArray = flows heap operands (Err outcomes.Link)
store_in heap operands rest r index v takes (IsArray class element contents) =
    store_at heap operands rest r (Array class element (with_element contents index (kept element (value_number v)))) (element_at contents index) takes

-- an array takes every number of its kind; `takes` decides of references
abbrev pub is_taken : (ℕ → ℕ → Bool) → ℕ → Value → Bool
is_taken takes r (values.Ref v) = takes r v
is_taken takes r _ = true

-- `takes` says whether the array of the first number takes the reference of the second
unfoldable pub store_element : {C : Type 0} → (ℕ → ℕ → Bool) → Access → Heap C → List Value → Option (OnHeap C)
store_element takes access heap (v ∷ (values.Int index ∷ (values.Ref r ∷ rest))) =
    if is_of_kind (access_kind access) v
    then Some (store_in heap (v ∷ (values.Int index ∷ (values.Ref r ∷ rest))) rest r index v (is_taken takes r v) (only access (array_at heap r)))
    else None
store_element takes access heap _ = None

-- ---- the length, and new arrays

abbrev pub length_of : {C : Type 0} → Heap C → List Value → List Value → Found C → OnHeap C
length_of heap operands rest Null = flows heap operands (Ok (Raise raises.NullPointer))
length_of heap operands rest NoArray = flows heap operands (Err outcomes.Link)
length_of heap operands rest (IsArray class element contents) = with_value heap rest (values.Int (pos (length contents)))

unfoldable pub array_length : {C : Type 0} → Heap C → List Value → Option (OnHeap C)
array_length heap (values.Ref r ∷ rest) = Some (length_of heap (values.Ref r ∷ rest) rest (array_at heap r))
array_length heap _ = None

-- whether this many bytes are more than the limit; without a limit none are
abbrev pub passes_limit : Option ℕ → ℕ → Bool
passes_limit None bytes = false
passes_limit (Some limit) bytes = nat_lt limit bytes

-- the object is made and its reference pushed, or the heap is full
abbrev pub make : {C : Type 0} → Option ℕ → Heap C → List Value → List Value → Object C → OnHeap C
make limit heap operands rest object =
    if passes_limit limit (heap.used + object_size object) then flows heap operands (Err (outcomes.HeapFull heap.used (object_size object)))
    else with_value (with_new heap object) rest (values.Ref (next_number heap))

-- an array of n elements, where it is known whether its bytes pass the limit
abbrev pub make_elements : {C : Type 0} → Bool → C → Element → Heap C → List Value → List Value → ℕ → OnHeap C
make_elements true class element heap operands rest n = flows heap operands (Err (outcomes.HeapFull heap.used (array_size element n)))
make_elements false class element heap operands rest n =
    with_value (with_new heap (Array class element (replicate n (pos 0)))) rest (values.Ref (next_number heap))

unfoldable pub make_array : {C : Type 0} → Option ℕ → C → Element → Heap C → List Value → Option (OnHeap C)
make_array limit class element heap (values.Int (pos n) ∷ rest) =
    Some (make_elements (passes_limit limit (heap.used + array_size element n)) class element heap (values.Int (pos n) ∷ rest) rest n)
make_array limit class element heap (values.Int (negsuc n) ∷ rest) =
    Some (flows heap (values.Int (negsuc n) ∷ rest) (Ok (Raise raises.NegativeArraySize)))
make_array limit class element heap _ = None
