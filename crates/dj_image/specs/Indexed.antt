-- Used by the code alone: what is at the indexes of a pool, by tables.
use Rattle.std.specs.Prelude.{◌≡◌, ℕ, ◌<◌, Bool, false, List, [], ◌∷◌, ◌++◌, length, Option, Some, None, nat_eq, if◌then◌else◌, get_or, slice_get, option_and_then}
use Rattle.dj_pool.specs.trusted.Pool.{Constant, constant_at, text_at, class_text_of}
use Rattle.dj_early_rules.specs.trusted.Classes.{class_text_index}
use Rattle.dj_program.specs.trusted.Naming.{units_in}
use Rattle.dj_numbering.specs.Typed.{Typed, text_number}
use Rattle.dj_image.specs.Operands.{units_number}

-- one for each number below a count
pub record Holds {A : Type 0} (f : ℕ → A) (count : ℕ) (kept : List A) : Type 0 where
  pub all : length kept ≡ count
  pub each : (index : ℕ) → index < count → slice_get kept index ≡ Some (f index)

-- ---- of the text at an index

-- the number of the class of which it is the name, or of the array of which it is the descriptor
abbrev pub text_class : Typed → List Constant → ℕ → Option ℕ
text_class types pool index = option_and_then (text_number types) (text_at pool index)

-- the text of a class constant is that of an array
abbrev pub is_array : List ℕ → Bool
is_array [] = false
is_array (b ∷ more) = nat_eq b 91

-- the descriptor of the array of which the elements are of the class or the array with this text
abbrev pub array_text : List ℕ → List ℕ
array_text text = if is_array text then 91 ∷ text else 91 ∷ (76 ∷ (text ++ 59 ∷ []))

-- the number of that array
abbrev pub text_array : Typed → List Constant → ℕ → Option ℕ
text_array types pool index = option_and_then (λ (text : List ℕ). text_number types (array_text text)) (text_at pool index)

-- the number of the text with its units
abbrev pub text_place : List (List ℕ) → List Constant → ℕ → Option ℕ
text_place texts pool index = option_and_then (λ (text : List ℕ). units_number texts (units_in text)) (text_at pool index)

-- ---- of a constant, by what is kept of texts

abbrev pub number_kept : List (Option ℕ) → Option ℕ → Option ℕ
number_kept kept index = option_and_then (λ (i : ℕ). get_or kept i None) index

-- the index of the text of the class that the constant at an index names
abbrev pub class_index : List Constant → ℕ → Option ℕ
class_index pool index = option_and_then (class_text_index pool) (constant_at pool index)

-- the number of that class
abbrev pub kept_class : List Constant → List (Option ℕ) → ℕ → Option ℕ
kept_class pool classes index = number_kept classes (class_index pool index)

-- the number of the array that anewarray makes by the constant
abbrev pub kept_array : List Constant → List (Option ℕ) → ℕ → Option ℕ
kept_array pool arrays index = number_kept arrays (option_and_then class_text_of (constant_at pool index))
