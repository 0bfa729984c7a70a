-- Used by the code alone: what holds of classes and arrays that have numbers.
use Rattle.std.specs.Prelude.{◌≡◌, ℕ, Some}
use Rattle.dj_names.specs.trusted.Types.{Name}
use Rattle.dj_class_table.specs.Tables.{name_at, class_number}
use Rattle.dj_numbering.specs.Typed.{Typed, ArePlain, AreArrays}
use Rattle.dj_image.specs.Tables.{AreClosed}

-- no two classes have the same name, no name begins as the descriptor of an array does, and the arrays are of base types and of classes that are there,
-- with all that are elements of others
pub record AreSettled (typed : Typed) : Type 0 where
  pub differ : (k : ℕ) (name : Name) → name_at typed.program k ≡ Some name → class_number typed.program name ≡ Some k
  pub plain : ArePlain typed.program
  pub arrays : AreArrays typed.program typed.arrays
  pub closed : AreClosed typed.arrays
