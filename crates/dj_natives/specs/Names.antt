-- The names of objects' classes as texts show them.
use Rattle.std.specs.Prelude.{ℕ, ◌-◌, List, [], ◌∷◌, ◌++◌, length, take, Option, Some, None, nat_eq, nat_lt, slice_range, if◌then◌else◌}
use Rattle.dj_names.specs.declared.descriptor.Ty.{Ty}
use Rattle.dj_names.specs.trusted.Heaps.{Object, class_of}
use Rattle.dj_heap.specs.Heaps.{LimitedHeap, object_in}
use Rattle.dj_model.specs.trusted.Types.{Prefix}
use Rattle.dj_model.specs.trusted.Natives.{plain_name, shown_class}
use Rattle.dj_library_types.specs.Numbered.{type_at}

abbrev pub shown_held : Prefix → List Ty → Option (Object ℕ) → List ℕ
shown_held prefix types None = []
shown_held prefix types (Some object) = shown_class prefix (type_at types (class_of object))

abbrev pub shown_at : Prefix → List Ty → LimitedHeap → ℕ → List ℕ
shown_at prefix types h r = shown_held prefix types (object_in h r)

-- ---- names and descriptors as bytes

abbrev pub after_brackets : List ℕ → List ℕ
after_brackets [] = []
after_brackets (byte ∷ more) = if nat_eq byte 91 then after_brackets more else byte ∷ more

-- what comes after the brackets: the letter of a base type, or a class's name between L and ;
abbrev pub plain_elements : Prefix → List ℕ → List ℕ
plain_elements prefix elements =
    if nat_lt (length elements) 2 then elements else 76 ∷ plain_name prefix (slice_range elements 1 (length elements - 1)) ++ 59 ∷ []

-- the name of a class or the descriptor of an array, without what comes before the names of the library's classes
abbrev pub plain_text : Prefix → List ℕ → List ℕ
plain_text prefix text =
    if nat_eq (length (after_brackets text)) (length text) then plain_name prefix text
    else take (length text - length (after_brackets text)) text ++ plain_elements prefix (after_brackets text)
