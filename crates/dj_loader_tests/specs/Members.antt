-- Members, texts and operands that an image has.
use Rattle.std.specs.Prelude.{◌≡◌, ◌<◌, ℕ, ⊤, length, Some}
use Rattle.dj_program.specs.declared.code.MethodCode.{MethodCode}
use Rattle.dj_program.specs.Views.{parts_of}
use Rattle.dj_numbering.specs.declared.types.MethodId.{MethodId}
use Rattle.dj_numbering.specs.declared.types.FieldId.{FieldId}
use Rattle.dj_numbering.specs.Members.{all_methods, all_fields}
use Rattle.dj_image.specs.declared.operand.Operand.{Operand}
use Rattle.dj_image.specs.declared.operand.Operand.TheVariants as operands
use Rattle.dj_image.specs.Imaged.{Imaged, program_of}
use Rattle.dj_image.specs.Codes.{PooledCode, code_at}

abbrev pub HasMethod : Imaged → MethodId → Type 0
HasMethod imaged method = method.number < length (all_methods (program_of imaged))

abbrev pub HasField : Imaged → FieldId → Type 0
HasField imaged field = field.number < length (all_fields (program_of imaged))

abbrev pub HasText : Imaged → ℕ → Type 0
HasText imaged text = text < length imaged.texts

-- what the operand names by a number is there
abbrev pub HasOperand : Imaged → Operand → Type 0
HasOperand imaged (operands.Text text) = HasText imaged text
HasOperand imaged (operands.Field field) = HasField imaged field
HasOperand imaged (operands.Method method) = HasMethod imaged method
HasOperand imaged other = ⊤

-- the method has this code
pub record HasCode (imaged : Imaged) (method : ℕ) (code : MethodCode) : Type 0 where
  pub pooled : PooledCode
  pub own : code_at imaged method ≡ Some pooled
  pub parts : pooled.parts ≡ parts_of code
