-- Code whose instructions and rows have numbers of 32 bits.
use Rattle.std.specs.Prelude.{◌≡◌, ℕ, ◌+◌, ◌<◌, ◌^◌, ⊤, List, ◌∷◌, length, Some, slice_get}
use Rattle.dj_model.specs.trusted.Program.{Code, Runs}
use Rattle.dj_model.specs.trusted.Linking.{FoundMethod}
use Rattle.dj_stack.specs.Frames.{StackFrame}
use Rattle.dj_numbering.specs.Members.{all_methods}
use Rattle.dj_image.specs.Imaged.{Imaged, program_of}

pub record IsShort (code : Code) : Type 0 where
  pub instructions : length code.instructions < 2 ^ 32
  pub ranges : length code.ranges < 2 ^ 32

-- all code of the image is such
abbrev pub AreShort : Imaged → Type 0
AreShort imaged = (method : ℕ) (found : FoundMethod) (code : Code) → slice_get (all_methods (program_of imaged)) method ≡ Some found → found.method.body ≡ Runs code → IsShort code

-- the number after the caller's instruction has 32 bits
abbrev pub HasNumberBelow : List StackFrame → Type 0
HasNumberBelow (f ∷ (caller ∷ below)) = caller.number + 1 < 2 ^ 32
HasNumberBelow frames = ⊤
