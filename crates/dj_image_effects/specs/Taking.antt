-- Used by the code alone: whether an array of references takes a reference.
use Rattle.std.specs.Prelude.{◌≡◌, ⊤, ℕ, ℤ, Bool, List, ◌∷◌}
use Rattle.dj_names.specs.declared.run.Element.TheVariants as elements
use Rattle.dj_names.specs.declared.run.Value.{Value}
use Rattle.dj_names.specs.declared.run.Value.TheVariants as values
use Rattle.dj_names.specs.Heaps.{heap_map}
use Rattle.dj_library_types.specs.Numbered.{type_at}
use Rattle.dj_model.specs.trusted.Arrays.{IsArray, array_at}
use Rattle.dj_model.specs.trusted.Linking.{is_subtype}
use Rattle.dj_model.specs.trusted.Performing.{class_at_number, takes}
use Rattle.dj_heap.specs.Heaps.{LimitedHeap}
use Rattle.dj_numbering.specs.Typed.{types_of}
use Rattle.dj_image.specs.Imaged.{Imaged, program_of, typed_of}

-- the reference is of the class
abbrev pub IsOf : Imaged → LimitedHeap → ℕ → ℕ → Bool → Type 0
IsOf imaged heap r class is =
    is_subtype (program_of imaged) imaged.prefix (class_at_number (heap_map (type_at (types_of (typed_of imaged))) heap.heap) r) (type_at (types_of (typed_of imaged)) class) ≡ is

-- the answer says whether the array takes the reference; of what is no array of references nothing is said
abbrev pub IsTakenBy : Imaged → LimitedHeap → ℕ → ℕ → Bool → Type 0
IsTakenBy imaged heap r v taken = (class : ℕ) (contents : List ℤ) → array_at heap.heap r ≡ IsArray class elements.Ref contents
    → takes (program_of imaged) imaged.prefix (heap_map (type_at (types_of (typed_of imaged))) heap.heap) r v ≡ taken

-- the reference on top, and the array that stands under an index
abbrev pub IsTaken : Imaged → LimitedHeap → Bool → List Value → Type 0
IsTaken imaged heap taken (values.Ref v ∷ (values.Int index ∷ (values.Ref r ∷ rest))) = IsTakenBy imaged heap r v taken
IsTaken imaged heap taken operands = ⊤
