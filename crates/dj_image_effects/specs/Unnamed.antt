-- Instructions that name nothing.
use Rattle.std.specs.Prelude.{◌≡◌, None}
use Rattle.dj_ops.specs.declared.instruction.Instr.{Instr}
use Rattle.dj_early_rules.specs.trusted.Instructions.{index_of}
use Rattle.dj_model.specs.trusted.Instructions.{Nothing}
use Rattle.dj_model.specs.trusted.Opcodes.{instruction_of}
use Rattle.dj_effects.specs.Actions.{action_view}
use Rattle.dj_effects.specs.declared.actions.PlainAction.{PlainAction}

-- the instruction has no index, and does what the action says
pub record IsUnnamed (instr : Instr) (action : PlainAction) : Type 0 where
  pub index : index_of instr ≡ None
  pub does : instruction_of instr Nothing ≡ action_view action
