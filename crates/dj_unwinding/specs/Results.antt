-- How a run ends with the last return, where the classes of objects are numbers.
use Rattle.std.specs.Prelude.{◌≡◌, ℕ, ℤ, List, [], map, Option, Some, None, nat_eq, if◌then◌else◌}
use Rattle.std.specs.Int.{w8, cast_unsigned}
use Rattle.dj_names.specs.declared.run.Value.{Value}
use Rattle.dj_names.specs.declared.run.Value.TheVariants as values
use Rattle.dj_names.specs.declared.run.Element.{Element}
use Rattle.dj_names.specs.declared.run.Element.TheVariants as elements
use Rattle.dj_names.specs.declared.run.Outcome.{Outcome}
use Rattle.dj_names.specs.declared.run.Outcome.TheVariants as outcomes
use Rattle.dj_names.specs.trusted.Heaps.{Object, Array, Heap, object_at}
use Rattle.dj_heap.specs.Heaps.{LimitedHeap, object_in, elements_of}

-- the outcome of a returned array: its bytes without their signs where it is one of bytes, else LINK
abbrev pub array_outcome : Element → List ℤ → Outcome
array_outcome elements.Byte contents = outcomes.OkBytes (map (cast_unsigned w8) contents)
array_outcome element contents = outcomes.Link

abbrev pub object_outcome : Option (Object ℕ) → Outcome
object_outcome (Some (Array class element contents)) = array_outcome element contents
object_outcome object = outcomes.Link

abbrev pub reference_outcome : Heap ℕ → ℕ → Outcome
reference_outcome heap r = if nat_eq r 0 then outcomes.OkNull else object_outcome (object_at heap.objects r)

abbrev pub value_outcome : Heap ℕ → Option Value → Outcome
value_outcome heap (Some (values.Ref r)) = reference_outcome heap r
value_outcome heap value = outcomes.Link

-- ---- arrays

abbrev pub contents_in : Option (Object ℕ) → List ℤ
contents_in None = []
contents_in (Some object) = elements_of object

-- the elements of an array; none where there is no array
abbrev pub contents_at : LimitedHeap → ℕ → List ℤ
contents_at heap r = contents_in (object_in heap r)

-- an array of such elements is there
pub record HasElements (heap : LimitedHeap) (r : ℕ) (element : Element) : Type 0 where
  pub class : ℕ
  pub contents : List ℤ
  pub there : object_in heap r ≡ Some (Array class element contents)
