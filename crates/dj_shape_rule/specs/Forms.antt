-- Used by the code alone: what the forms of instructions say, whatever their indexes name.
use Rattle.std.specs.Prelude.{⊤, Bool, true, false, ℤ, All, unsigned_abs}
use Rattle.dj_ops.specs.declared.instruction.Instr.{Instr}
use Rattle.dj_ops.specs.declared.instruction.Instr.TheVariants as instrs
use Rattle.dj_model.specs.trusted.Instructions.{Nothing, ends}
use Rattle.dj_model.specs.trusted.Opcodes.{simple, operand_does, jump_rows}
use Rattle.dj_model.specs.trusted.Kinds.{Kinds}
use Rattle.dj_shape_rule.specs.Reported.{ReportedFrames, reported_at}
use Rattle.dj_shape_rule.specs.Flows.{FlowsToFrame}

-- whether the run never goes on at the next instruction
abbrev pub form_ends : Instr → Bool
form_ends (instrs.Simple op) = ends (simple Nothing op)
form_ends (instrs.Branch op target) = ends (operand_does jump_rows Nothing op (unsigned_abs target))
form_ends (instrs.Table low default targets) = true
form_ends (instrs.Lookup default pairs) = true
form_ends instr = false

-- each of its targets has a frame, and this fits it
abbrev pub FlowsAt : Kinds → ReportedFrames → ℤ → Type 0
FlowsAt left frames target = FlowsToFrame left (reported_at frames (unsigned_abs target))

abbrev pub FormFlows : Kinds → ReportedFrames → Instr → Type 0
FormFlows left frames (instrs.Branch op target) = FlowsAt left frames target
FormFlows left frames (instrs.Table low default targets) = FlowsAt left frames default × All (FlowsAt left frames) targets
FormFlows left frames (instrs.Lookup default pairs) = FlowsAt left frames default × All (λ pair. FlowsAt left frames pair.1) pairs
FormFlows left frames instr = ⊤
