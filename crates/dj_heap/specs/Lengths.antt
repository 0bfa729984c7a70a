-- How many fields, elements or units an object has.
use Rattle.std.specs.Prelude.{ℕ, length}
use Rattle.dj_names.specs.trusted.Heaps.{Object, Instance, Array, Text}

abbrev pub object_length : Object ℕ → ℕ
object_length (Instance class fields) = length fields
object_length (Array class element contents) = length contents
object_length (Text class units) = length units
