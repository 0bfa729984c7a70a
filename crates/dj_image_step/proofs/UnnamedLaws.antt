-- An instruction that names nothing uses no class and calls nothing.
use Rattle.std.proofs.Common.{◌≡◌, ℕ, Some, None, refl, ap, ◌∙◌, IsFalse}
use Rattle.dj_ops.specs.declared.instruction.Instr.{Instr}
use Rattle.dj_program.specs.trusted.Naming.{named_if}
use Rattle.dj_model.specs.trusted.Instructions.{Named}
use Rattle.dj_model.specs.Instructions.{calls}
use Rattle.dj_model.specs.trusted.Opcodes.{instruction_of}
use Rattle.dj_model.specs.trusted.Effects.{used_class}
use Rattle.dj_effects.specs.Actions.{action_view}
use Rattle.dj_effects.specs.declared.actions.PlainAction.{PlainAction}
use Rattle.dj_effects.specs.declared.actions.PlainAction.TheVariants as actions
use Rattle.dj_image.specs.Imaged.{Imaged}
use Rattle.dj_current_method.specs.Instructions.{IsInstrAt, instruction_of_number}
use Rattle.dj_image_effects.specs.Unnamed.{IsUnnamed}
use Rattle.dj_image_step.specs.Doing.{IsUsed}

pub none_used : (imaged : Imaged) (action : PlainAction) → IsUsed imaged (action_view action) None
unfolding used_class
none_used imaged actions.Nop = refl
none_used imaged (actions.Push v) = refl
none_used imaged (actions.Load kind slot) = refl
none_used imaged (actions.Store kind slot) = refl
none_used imaged (actions.Increment slot by) = refl
none_used imaged (actions.LoadElement access) = refl
none_used imaged (actions.StoreElement access) = refl
none_used imaged (actions.Move movement) = refl
none_used imaged (actions.Compute operation) = refl
none_used imaged (actions.Convert operation) = refl
none_used imaged (actions.Branch test target) = refl
none_used imaged (actions.Goto target) = refl
none_used imaged (actions.Table default low targets) = refl
none_used imaged (actions.Lookup default pairs) = refl
none_used imaged (actions.Return kind) = refl
none_used imaged (actions.NewArray base element) = refl
none_used imaged actions.ArrayLength = refl
none_used imaged actions.Throw = refl
none_used imaged actions.Monitor = refl

pub none_called : (action : PlainAction) → IsFalse (calls (action_view action))
none_called actions.Nop = refl
none_called (actions.Push v) = refl
none_called (actions.Load kind slot) = refl
none_called (actions.Store kind slot) = refl
none_called (actions.Increment slot by) = refl
none_called (actions.LoadElement access) = refl
none_called (actions.StoreElement access) = refl
none_called (actions.Move movement) = refl
none_called (actions.Compute operation) = refl
none_called (actions.Convert operation) = refl
none_called (actions.Branch test target) = refl
none_called (actions.Goto target) = refl
none_called (actions.Table default low targets) = refl
none_called (actions.Lookup default pairs) = refl
none_called (actions.Return kind) = refl
none_called (actions.NewArray base element) = refl
none_called actions.ArrayLength = refl
none_called actions.Throw = refl
none_called actions.Monitor = refl

-- it is the instruction of the number
pub unnamed_at : (imaged : Imaged) (method number : ℕ) (instr : Instr) (named : Named) (action : PlainAction) → IsInstrAt imaged method number instr named → IsUnnamed instr action
    → instruction_of_number imaged method number ≡ Some (action_view action)
unnamed_at imaged method number instr named action at is =
    at.is ∙ ap Some (ap (instruction_of instr) (at.stands.names ∙ ap (named_if at.stands.code.pool) is.index) ∙ is.does)
