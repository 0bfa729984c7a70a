-- An object has less fields, elements or units than bytes.
use Rattle.std.proofs.Common.{◌<◌, ◌≤◌, ◌^◌, ℕ, length, arith}
use Rattle.dj_names.specs.declared.run.Element.{Element}
use Rattle.dj_names.specs.declared.run.Element.TheVariants as elements
use Rattle.dj_names.specs.trusted.Heaps.{Object, Instance, Array, Text, array_size, object_size}
use Rattle.dj_heap.specs.Lengths.{object_length}

short_array : (element : Element) (n : ℕ) → array_size element n ≤ 2147483648 → n < 2 ^ 31
short_array elements.Boolean n e = omega (arith, e)
short_array elements.Byte n e = omega (arith, e)
short_array elements.Char n e = omega (arith, e)
short_array elements.Short n e = omega (arith, e)
short_array elements.Int n e = omega (arith, e)
short_array elements.Long n e = omega (arith, e)
short_array elements.Ref n e = omega (arith, e)

pub short_object : (object : Object ℕ) → object_size object ≤ 2147483648 → object_length object < 2 ^ 31
short_object (Instance class fields) e = omega (arith, e)
short_object (Array class element contents) e = short_array element (length contents) e
short_object (Text class units) e = omega (arith, e)
