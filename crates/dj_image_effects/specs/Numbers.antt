-- Used by the code alone: numbers that instructions name.
use Rattle.std.specs.Prelude.{Option, Some, None}
use Rattle.dj_names.specs.declared.run.Value.{Value}
use Rattle.dj_names.specs.declared.run.Value.TheVariants as values
use Rattle.dj_model.specs.trusted.Instructions.{Instruction, Nop, Push}
use Rattle.dj_image.specs.declared.operand.Operand.{Operand}
use Rattle.dj_image.specs.declared.operand.Operand.TheVariants as operands

abbrev pub literal_value : Operand → Option Value
literal_value (operands.Int z) = Some (values.Int z)
literal_value (operands.Long z) = Some (values.Long z)
literal_value operand = None

abbrev pub push_of : Option Value → Instruction
push_of None = Nop
push_of (Some v) = Push v

-- the push of a number, and nothing of what is none
abbrev pub literal_push : Operand → Instruction
literal_push operand = push_of (literal_value operand)
