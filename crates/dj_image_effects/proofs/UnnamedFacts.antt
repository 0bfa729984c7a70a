-- An instruction with an action of its own names nothing.
use Rattle.std.proofs.Common.{◌≡◌, true, false, Option, Some, None, refl, sym, ap, ◌∙◌}
use Rattle.std.specs.Prelude.{IfSome}
use Rattle.std.proofs.lemmas.Bool.{false≢true}
use Rattle.dj_ops.specs.declared.instruction.Instr.{Instr}
use Rattle.dj_ops.specs.declared.instruction.Instr.TheVariants as instrs
use Rattle.dj_early_rules.specs.trusted.Instructions.{index_of}
use Rattle.dj_model.specs.trusted.Instructions.{Instruction, Nothing}
use Rattle.dj_model.specs.trusted.Opcodes.{instruction_of}
use Rattle.dj_effects.specs.Actions.{IsActionOf, action_view, is_other}
use Rattle.dj_effects.specs.declared.actions.PlainAction.{PlainAction}
use Rattle.dj_effects.specs.declared.actions.PlainAction.TheVariants as actions
use Rattle.dj_image_effects.specs.Unnamed.{IsUnnamed}

-- ---- the instruction

other_not : (i : Instruction) (action : PlainAction) → i ≡ action_view action → is_other i ≡ true → ⊥
other_not i action is other = false≢true (sym (is_action action) ∙ (sym (ap is_other is) ∙ other)) where
  is_action : (a : PlainAction) → is_other (action_view a) ≡ false
  is_action actions.Nop = refl
  is_action (actions.Push v) = refl
  is_action (actions.Load kind slot) = refl
  is_action (actions.Store kind slot) = refl
  is_action (actions.Increment slot by) = refl
  is_action (actions.LoadElement access) = refl
  is_action (actions.StoreElement access) = refl
  is_action (actions.Move movement) = refl
  is_action (actions.Compute operation) = refl
  is_action (actions.Convert operation) = refl
  is_action (actions.Branch test target) = refl
  is_action (actions.Goto target) = refl
  is_action (actions.Table default low targets) = refl
  is_action (actions.Lookup default pairs) = refl
  is_action (actions.Return kind) = refl
  is_action (actions.NewArray base element) = refl
  is_action actions.ArrayLength = refl
  is_action actions.Throw = refl
  is_action actions.Monitor = refl

-- one with an index isn't run without what the index names
no_index : (instr : Instr) → (is_other (instruction_of instr Nothing) ≡ true → ⊥) → index_of instr ≡ None
unfolding instruction_of
no_index (instrs.Literal op index) runs = absurd (runs refl)
no_index (instrs.Member op index) runs = absurd (runs refl)
no_index (instrs.Interface index count) runs = absurd (runs refl)
no_index (instrs.Dynamic index) runs = absurd (runs refl)
no_index (instrs.Class op index) runs = absurd (runs refl)
no_index (instrs.Multi index dims) runs = absurd (runs refl)
no_index instr runs = refl

pub is_unnamed : (instr : Instr) (action : PlainAction) → instruction_of instr Nothing ≡ action_view action → IsUnnamed instr action
is_unnamed instr action does = record { index = no_index instr (other_not (instruction_of instr Nothing) action does); does = does }

pub are_unnamed : (instr : Instr) (action : Option PlainAction) → IsActionOf action (instruction_of instr Nothing) → IfSome action (IsUnnamed instr)
are_unnamed instr None is = tt
are_unnamed instr (Some action) is = is_unnamed instr action is
