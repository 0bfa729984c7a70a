-- The heap's objects as the definitions see them.
use Rattle.std.specs.Prelude.{ℕ, ◌^◌, ◌<◌, ℤ, pos, map, Option, option_and_then, slice_get}
use Rattle.dj_names.specs.declared.run.Element.TheVariants as elements
use Rattle.dj_names.specs.trusted.Heaps as heaps
use Rattle.dj_heap.specs.Heaps.{contents_of}
use Rattle.dj_heap.specs.Lengths.{object_length}
use Rattle.dj_heap.specs.declared.object.Object.{Object}
use Rattle.dj_heap.specs.declared.object.Object.TheVariants as objects

abbrev pub object_view : Object → heaps.Object ℕ
object_view (objects.Instance class fields) = heaps.Instance class fields
object_view (objects.Booleans class items) = heaps.Array class elements.Boolean items.items
object_view (objects.Bytes class items) = heaps.Array class elements.Byte items.items
object_view (objects.Chars class items) = heaps.Array class elements.Char (map pos items.items)
object_view (objects.Shorts class items) = heaps.Array class elements.Short items.items
object_view (objects.Ints class items) = heaps.Array class elements.Int items.items
object_view (objects.Longs class items) = heaps.Array class elements.Long items.items
object_view (objects.References class items) = heaps.Array class elements.Ref (map pos items.items)
object_view (objects.Text class units) = heaps.Text class units

-- the number of fields, elements or units fits 31 bits
abbrev pub IsShort : Object → Type 0
IsShort object = object_length (object_view object) < 2 ^ 31

-- an element of an array
abbrev pub number_at : Object → ℕ → Option ℤ
number_at object at = option_and_then (λ contents. slice_get contents at) (contents_of (object_view object))
