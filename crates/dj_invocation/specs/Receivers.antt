-- Objects on which methods are called.
use Rattle.std.specs.Prelude.{◌≡◌, ℕ, ◌<◌, ⊤, Bool, true, List, length, Some, None, slice_get}
use Rattle.std.specs.List.{All}
use Rattle.dj_names.specs.declared.descriptor.Ty.{Ty}
use Rattle.dj_names.specs.declared.run.Value.{Value}
use Rattle.dj_names.specs.declared.run.Value.TheVariants as values
use Rattle.dj_names.specs.trusted.Heaps.{Heap, class_of, object_at}
use Rattle.dj_names.specs.Heaps.{heap_map}
use Rattle.dj_model.specs.trusted.Types.{Prefix}
use Rattle.dj_model.specs.trusted.Program.{Program}
use Rattle.dj_model.specs.trusted.Performing.{is_instance}
use Rattle.dj_numbering.specs.Typed.{types_of, type_at}
use Rattle.dj_image.specs.Imaged.{Imaged, typed_of}

-- the heap with types for the numbers of classes
abbrev pub typed_heap : Imaged → Heap ℕ → Heap Ty
typed_heap imaged heap = heap_map (type_at (typed_of imaged)) heap

-- each object's class has a number of the image
abbrev pub AreNumbered : Imaged → Heap ℕ → Type 0
AreNumbered imaged heap = All (λ object. class_of object < length (types_of (typed_of imaged))) heap.objects

-- a reference is null or that of an object
abbrev pub IsObject : Heap ℕ → ℕ → Type 0
IsObject heap r = object_at heap.objects r ≡ None → r ≡ 0

abbrev pub HasObject : Heap ℕ → Value → Type 0
HasObject heap (values.Ref r) = IsObject heap r
HasObject heap v = ⊤

-- each reference among operands is null or that of an object
abbrev pub AreObjects : Heap ℕ → List Value → Type 0
AreObjects heap operands = (at : ℕ) (v : Value) → slice_get operands at ≡ Some v → HasObject heap v

-- a parameter of the type takes the value: a reference has to be null or of the class
abbrev pub takes_argument : Program → Prefix → Heap Ty → Ty → Value → Bool
takes_argument program prefix heap ty (values.Ref r) = is_instance program prefix heap r ty
takes_argument program prefix heap ty v = true
