-- Beside trusted/Arrays.antt: what no clause of the call `djvm` reaches.
use Rattle.dj_names.specs.Heaps.{heap_map}
use Rattle.dj_model.specs.trusted.Arrays.{OnHeap}

abbrev pub on_heap_map : {C D : Type 0} → (C → D) → OnHeap C → OnHeap D
on_heap_map f e = record { heap = heap_map f e.heap; operands = e.operands; result = e.result }
