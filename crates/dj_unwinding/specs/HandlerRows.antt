-- Rows of the exception table of a method of an image.
use Rattle.std.specs.Prelude.{◌≡◌, ℕ, Some, slice_get}
use Rattle.dj_labels.specs.declared.labelled.Protected.{Protected}
use Rattle.dj_program.specs.declared.code.MethodCode.{MethodCode}
use Rattle.dj_image.specs.Imaged.{Imaged}
use Rattle.dj_current_method.specs.Reported.{IsCodeOf}

-- the code of the method of this number has the row at that place
pub record IsRowOf (imaged : Imaged) (method at : ℕ) (row : Protected) : Type 0 where
  pub code : MethodCode
  pub reported : IsCodeOf imaged method code
  pub stands : slice_get code.code.ranges at ≡ Some row

-- some row of the code is such
pub record HasRow (imaged : Imaged) (method at : ℕ) : Type 0 where
  pub row : Protected
  pub is : IsRowOf imaged method at row
