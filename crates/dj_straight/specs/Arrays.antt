-- A heap of arrays of bytes, as the model has it.
use Rattle.std.specs.Prelude.{ℕ, ◌^◌, ◌<◌, ℤ, List, All, map, sum_by, length, codes}
use Rattle.std.specs.Global.{Vec}
use Rattle.dj_names.specs.declared.run.Element.TheVariants as elements
use Rattle.dj_straight.specs.trusted.Objects.{Object, Array}
use Rattle.dj_straight.specs.trusted.State.{Heap}
use Rattle.dj_straight.specs.trusted.Effects.{array_size}

-- an array of bytes
abbrev pub byte_array : List ℤ → Object
byte_array contents = Array (codes "[B") elements.Byte contents

-- the bytes that it takes
abbrev pub byte_size : List ℤ → ℕ
byte_size contents = array_size elements.Byte (length contents)

abbrev pub heap_of : List (Vec ℤ) → Heap
heap_of arrays = record { objects = map (λ bytes. byte_array bytes.items) arrays; used = sum_by (λ bytes. byte_size bytes.items) arrays }

-- each length is an int
abbrev pub AreShort : List (Vec ℤ) → Type 0
AreShort arrays = All (λ bytes. length bytes.items < 2 ^ 31) arrays
