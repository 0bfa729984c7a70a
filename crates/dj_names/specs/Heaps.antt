-- Beside trusted/Heaps.antt: what no clause of the call `djvm` reaches.
use Rattle.std.specs.Prelude.{map}
use Rattle.dj_names.specs.trusted.Heaps.{Object, Instance, Array, Text, Heap}

-- ---- another way to say the class of an object

abbrev pub object_map : {C D : Type 0} → (C → D) → Object C → Object D
object_map f (Instance class fields) = Instance (f class) fields
object_map f (Array class element contents) = Array (f class) element contents
object_map f (Text class units) = Text (f class) units

abbrev pub heap_map : {C D : Type 0} → (C → D) → Heap C → Heap D
heap_map f h = record { objects = map (object_map f) h.objects; used = h.used }
