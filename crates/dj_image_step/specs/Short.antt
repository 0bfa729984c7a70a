-- What holds of the code of class files, and isn't known of that of an image.
use Rattle.std.specs.Prelude.{◌≡◌, ℕ, ◌≤◌, Bool, true, List, Some, nat_le, slice_get}
use Rattle.dj_ops.specs.declared.instruction.Instr.{Instr}
use Rattle.dj_ops.specs.declared.instruction.Instr.TheVariants as instrs
use Rattle.dj_model.specs.trusted.Program.{Code, Runs}
use Rattle.dj_model.specs.trusted.Linking.{FoundMethod}
use Rattle.dj_numbering.specs.Members.{all_methods}
use Rattle.dj_image.specs.Imaged.{Imaged, program_of}
use Rattle.dj_unwinding.specs.Short.{IsShort}
use Rattle.dj_image_effects.specs.Frugal.{LoadsByKnown}

-- instructions and rows of the method's code have numbers of 32 bits, and each literal is loaded by one of the three opcodes that do
pub record IsBoundedCode (imaged : Imaged) (method : ℕ) (code : Code) : Type 0 where
  pub short : IsShort code
  pub loads : (number : ℕ) → LoadsByKnown imaged method number

abbrev pub IsBounded : Imaged → ℕ → Type 0
IsBounded imaged method = (found : FoundMethod) (code : Code) → slice_get (all_methods (program_of imaged)) method ≡ Some found → found.method.body ≡ Runs code → IsBoundedCode imaged method code

abbrev pub AreBounded : Imaged → Type 0
AreBounded imaged = (method : ℕ) → IsBounded imaged method

-- ---- used by the code alone

abbrev pub is_known_load : Instr → Bool
is_known_load (instrs.Literal op index) = nat_le op 20
is_known_load instr = true

abbrev pub LoadByKnown : List Instr → Type 0
LoadByKnown code = (number op index : ℕ) → slice_get code number ≡ Some (instrs.Literal op index) → op ≤ 20
