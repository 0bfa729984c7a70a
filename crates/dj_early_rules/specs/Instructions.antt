-- Beside trusted/Instructions.antt: what no clause of the call `djvm` reaches.
use Rattle.std.specs.Prelude.{Bool, true, false, not, ◌&&◌, nat_eq}
use Rattle.dj_ops.specs.declared.instruction.Instr.{Instr}
use Rattle.dj_ops.specs.declared.instruction.Instr.TheVariants as instrs
use Rattle.dj_early_rules.specs.trusted.Opcodes.{is_float_op, is_subroutine_jump}

-- ---- instructions of no rule

-- an instruction that names no constant and whose opcode violates no rule. Other instructions may violate none either
abbrev pub is_plain : Instr → Bool
is_plain (instrs.Simple op) = not (is_float_op op) && not (nat_eq op 202)
is_plain (instrs.Push op value) = true
is_plain (instrs.Local op slot wide) = not (is_float_op op) && not (nat_eq op 169)
is_plain (instrs.Inc slot by wide) = true
is_plain (instrs.Branch op target) = not (is_subroutine_jump op)
is_plain _ = false
