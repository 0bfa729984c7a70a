-- What is answered for the method of a number.
use Rattle.std.specs.Prelude.{◌≡◌, ℕ, true, false, List, Option, Some, None}
use Rattle.dj_pool.specs.trusted.Pool.{Constant}
use Rattle.dj_model.specs.trusted.Program.{code_of, is_initialiser}
use Rattle.dj_program.specs.trusted.Codes.{code_in}
use Rattle.dj_program.specs.Views.{parts_of}
use Rattle.dj_program.specs.declared.code.MethodCode.{MethodCode}
use Rattle.dj_class_table.specs.Tables.{name_at}
use Rattle.dj_image.specs.Codes.{code_at}
use Rattle.dj_image.specs.Imaged.{Imaged, program_of}
use Rattle.dj_current_method.specs.Activations.{declared_at}

-- the code is that of the method of this number, in the image and in the program
pub record IsCodeOf (imaged : Imaged) (method : ℕ) (code : MethodCode) : Type 0 where
  pub pool : List Constant
  pub own : code_at imaged method ≡ Some (record { pool = pool; parts = parts_of code })
  pub is : code_of (program_of imaged) (declared_at (program_of imaged) method) ≡ Some (code_in pool (parts_of code))

-- the method has this code, or none
abbrev pub SaysCode : Imaged → ℕ → Option MethodCode → Type 0
SaysCode imaged method None = code_of (program_of imaged) (declared_at (program_of imaged) method) ≡ None
SaysCode imaged method (Some code) = IsCodeOf imaged method code

-- the method is the initialiser of the class of this number
pub record IsInitialiserOf (imaged : Imaged) (method class : ℕ) : Type 0 where
  pub is : is_initialiser (declared_at (program_of imaged) method) ≡ true
  pub class_is : name_at (program_of imaged) class ≡ Some (declared_at (program_of imaged) method).class

-- the method is the initialiser of this class, or none
abbrev pub SaysInitialiser : Imaged → ℕ → Option ℕ → Type 0
SaysInitialiser imaged method None = is_initialiser (declared_at (program_of imaged) method) ≡ false
SaysInitialiser imaged method (Some class) = IsInitialiserOf imaged method class
