-- What native methods see of a heap whose objects have classes by numbers.
use Rattle.std.specs.Prelude.{◌≡◌, ℕ, ◌<◌, ◌≤◌, Bool, true, false, List, [], length, Option, Some, None, IsSome, slice_index, codes, nat_eq, nat_le, ℤ, pos, negsuc, if◌then◌else◌}
use Rattle.dj_names.specs.declared.run.Element.{Element}
use Rattle.dj_names.specs.trusted.Heaps.{Object, Instance, Array, Text}
use Rattle.dj_heap.specs.Heaps.{LimitedHeap, object_in}
use Rattle.dj_model.specs.trusted.Natives.{Elements}

abbrev pub units_held : Option (Object ℕ) → List ℕ
units_held (Some (Text class units)) = units
units_held _ = []

abbrev pub is_text_held : Option (Object ℕ) → Bool
is_text_held (Some (Text class units)) = true
is_text_held _ = false

abbrev pub field_held : Option (Object ℕ) → ℕ → ℕ
field_held (Some (Instance class fields)) place = slice_index fields place
field_held _ place = 0

abbrev pub elements_held : Option (Object ℕ) → Option Elements
elements_held (Some (Array class element contents)) = Some (record { element = element; contents = contents })
elements_held _ = None

-- the units of a text; none for anything else
abbrev pub units_at : LimitedHeap → ℕ → List ℕ
units_at h r = units_held (object_in h r)

-- the units of a text; for null those of `null`
abbrev pub null_or_units : LimitedHeap → ℕ → List ℕ
null_or_units h r = if nat_eq r 0 then codes "null" else units_at h r

abbrev pub is_text_at : LimitedHeap → ℕ → Bool
is_text_at h r = is_text_held (object_in h r)

-- the 64 bits of the field at this place; 0 where there is none
abbrev pub field_at : LimitedHeap → ℕ → ℕ → ℕ
field_at h r place = field_held (object_in h r) place

abbrev pub elements_at : LimitedHeap → ℕ → Option Elements
elements_at h r = elements_held (object_in h r)

abbrev pub element_of : Option Elements → Option Element
element_of None = None
element_of (Some a) = Some a.element

-- a place in a text of this many units, or at its end
abbrev pub place_within : ℕ → ℤ → Option ℕ
place_within count (pos n) = if nat_le n count then Some n else None
place_within count (negsuc n) = None

-- ---- objects of a number, where it is one

abbrev pub IsThere : LimitedHeap → ℕ → Option ℕ → Type 0
IsThere h r None = object_in h r ≡ None
IsThere h r (Some n) = (n ≡ r) × IsSome (object_in h r)

abbrev pub IsTextThere : LimitedHeap → ℕ → Option ℕ → Type 0
IsTextThere h r None = is_text_at h r ≡ false
IsTextThere h r (Some n) = (n ≡ r) × (is_text_at h r ≡ true)

-- an instance with a field at the place
pub record IsInstanceWith (h : LimitedHeap) (r at : ℕ) : Type 0 where
  pub class : ℕ
  pub fields : List ℕ
  pub is : object_in h r ≡ Some (Instance class fields)
  pub within : at < length fields

-- no instance, or none with such a field
abbrev pub LacksField : LimitedHeap → ℕ → ℕ → Type 0
LacksField h r at = (class : ℕ) (fields : List ℕ) → object_in h r ≡ Some (Instance class fields) → length fields ≤ at

abbrev pub HasField : LimitedHeap → ℕ → ℕ → Option ℕ → Type 0
HasField h r at None = LacksField h r at
HasField h r at (Some n) = (n ≡ r) × IsInstanceWith h r at

abbrev pub IsArrayThere : LimitedHeap → ℕ → Option ℕ → Type 0
IsArrayThere h r None = elements_at h r ≡ None
IsArrayThere h r (Some n) = (n ≡ r) × IsSome (elements_at h r)
