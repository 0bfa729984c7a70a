-- What numbers of classes stand for, by plain values.
use Rattle.std.proofs.Common.{◌≡◌, ℕ, zero, suc, ◌<◌, true, false, List, [], ◌∷◌, map, Option, Some, None, refl, sym, codes, arith, slice_get}
use Rattle.std.proofs.lemmas.Bool.{false≢true, true≢false}
use Rattle.std.proofs.lemmas.Option.{none-some, same_Some}
use Rattle.dj_names.specs.declared.descriptor.Base.TheVariants as bases
use Rattle.dj_names.specs.declared.descriptor.Ty.{Ty}
use Rattle.dj_names.specs.trusted.Types.{Name, class_type, base_type, array_type}
use Rattle.dj_names.specs.Types.{sandbox_prefix}
use Rattle.dj_names.specs.trusted.Library.{object, object_class}
use Rattle.dj_model.specs.trusted.Types.{is_stop}
use Rattle.dj_model.specs.trusted.Program.{Program, Class}
use Rattle.dj_library_types.specs.Numbered.{type_at, IsNumberOf, superclass_type, component_of, holds_references, is_number, SaysStop}
use Rattle.dj_image.proofs.TypeFacts.{other_type, a, b, ints, longs, a_arrays}

-- ---- numbers

abbrev stop_type : Ty
stop_type = class_type (codes "djvm/Stop")

abbrev types : List Ty
types = stop_type ∷ a ∷ ints ∷ []

-- past the last there is no name
types_reported : map (type_at types) (0 ∷ 1 ∷ 2 ∷ 3 ∷ []) ≡ stop_type ∷ a ∷ ints ∷ class_type [] ∷ []
types_reported = refl

-- no type has no number, and a type its own
numbers : IsNumberOf types None None × IsNumberOf types (Some a) (Some 1) × IsNumberOf types (Some ints) (Some 2)
numbers = (tt, refl, refl)

number_of_nothing : IsNumberOf types None (Some 1) → ⊥
number_of_nothing reported = reported

-- not that of another type, and none past the end
other_number : IsNumberOf types (Some a) (Some 2) → ⊥
other_number reported = other_type ints a refl refl (same_Some ints a reported)

number_past_end : IsNumberOf types (Some a) (Some 3) → ⊥
number_past_end reported = none-some a reported

-- without a number only where the type has none
none_of_longs : (k : ℕ) → slice_get (ints ∷ []) k ≡ Some longs → ⊥
none_of_longs zero e = other_type ints longs refl refl (same_Some ints longs e)
none_of_longs (suc k) e = none-some longs e

no_number : IsNumberOf (ints ∷ []) (Some longs) None
no_number = none_of_longs

number_left_out : IsNumberOf types (Some ints) None → ⊥
number_left_out reported = reported 2 refl

-- ---- superclasses and components

-- A below Object; an array, a base type and a class that isn't there have no superclass
abbrev class_of : Name → Option Name → Class
class_of name superclass = record {
  name = name;
  flags = 33;
  superclass = superclass;
  interfaces = [];
  unnamed_fields = 0;
  fields = [];
  methods = [];
}

abbrev below : Program
below = class_of (codes "A") (Some object_class) ∷ class_of object_class None ∷ []

superclasses : map (superclass_type below) (a ∷ object ∷ b ∷ a_arrays 1 ∷ ints ∷ base_type bases.Int ∷ []) ≡ Some object ∷ None ∷ None ∷ None ∷ None ∷ None ∷ []
superclasses = refl

no_superclass_left_out : superclass_type below a ≡ None → ⊥
no_superclass_left_out e = none-some object (sym e)

-- of arrays of classes and of arrays alone
components : map component_of (a ∷ a_arrays 1 ∷ a_arrays 2 ∷ base_type bases.Int ∷ ints ∷ array_type ints ∷ []) ≡ None ∷ Some a ∷ Some (a_arrays 1) ∷ None ∷ None ∷ Some ints ∷ []
components = refl

no_component_of_ints : component_of ints ≡ Some (base_type bases.Int) → ⊥
no_component_of_ints e = none-some (base_type bases.Int) e

references : map holds_references (a ∷ a_arrays 1 ∷ ints ∷ array_type ints ∷ []) ≡ false ∷ true ∷ false ∷ true ∷ []
references = refl

numbers_same : is_number None 0 ∷ is_number (Some 0) 0 ∷ is_number (Some 1) 0 ∷ [] ≡ false ∷ true ∷ false ∷ []
numbers_same = refl

-- ---- the class of the object that stops a run

stop_at : (k : ℕ) → k < 3 → is_stop sandbox_prefix (type_at types k) ≡ is_number (Some 0) k
stop_at zero h = refl
stop_at (suc zero) h = refl
stop_at (suc (suc zero)) h = refl
stop_at (suc (suc (suc k))) h = absurd (omega (arith, h))

stop : SaysStop types sandbox_prefix (Some 0)
stop = stop_at

-- under no prefix no class is it
no_stop : SaysStop types [] None
no_stop k h = refl

none_at : (k : ℕ) → k < 1 → is_stop sandbox_prefix (type_at (ints ∷ []) k) ≡ is_number None k
none_at zero h = refl
none_at (suc k) h = absurd (omega (arith, h))

none_there : SaysStop (ints ∷ []) sandbox_prefix None
none_there = none_at

-- an array of it is another type
arrays_at : (k : ℕ) → k < 1 → is_stop sandbox_prefix (type_at (array_type stop_type ∷ []) k) ≡ is_number None k
arrays_at zero h = refl
arrays_at (suc k) h = absurd (omega (arith, h))

no_array_of_stop : SaysStop (array_type stop_type ∷ []) sandbox_prefix None
no_array_of_stop = arrays_at

stop_left_out : SaysStop types sandbox_prefix None → ⊥
stop_left_out reported = true≢false (reported 0 (omega arith))

other_stop : SaysStop types sandbox_prefix (Some 1) → ⊥
other_stop reported = true≢false (reported 0 (omega arith))

plain_stop : SaysStop types [] (Some 0) → ⊥
plain_stop reported = false≢true (reported 0 (omega arith))
