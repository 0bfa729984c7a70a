-- What an instruction reads and leaves, in a state of the model.
use Rattle.std.proofs.Common.{◌≡◌, ℕ, List, ◌∷◌, Option, Some, refl}
use Rattle.dj_names.specs.declared.run.Value.{Value}
use Rattle.dj_model.specs.trusted.Instructions.{Instruction}
use Rattle.dj_model.specs.trusted.State.{State, instruction_at}
use Rattle.dj_model.specs.trusted.Step as model
use Rattle.dj_stack.specs.Frames.{StackFrame}
use Rattle.dj_image.specs.Imaged.{Imaged, program_of}
use Rattle.dj_current_method.specs.Activations.{frame_seen}
use Rattle.dj_initialisation.specs.Store.{Store, stored}
use Rattle.dj_image_effects.specs.Acting.{instruction_of_number, machine, part_of, part_with}

-- the instruction at which a frame stands is that of its numbers
pub instruction_seen : (imaged : Imaged) (f : StackFrame) → instruction_at (program_of imaged) (frame_seen (program_of imaged) f) ≡ instruction_of_number imaged f.method f.number
instruction_seen imaged f = refl

-- what it reads is what stands in the frame and in the state
pub part_seen : (imaged : Imaged) (f : StackFrame) (below : List StackFrame) (st : Store) (s : State)
    → model.part_of (frame_seen (program_of imaged) f) (stored imaged st s) ≡ part_of imaged (machine (f ∷ below) st) s.account s.answers
part_seen imaged f below st s = refl

-- and what it leaves stands in the state
pub state_left : (imaged : Imaged) (f : StackFrame) (below : List StackFrame) (before after : Store) (operands : List Value) (s : State)
    → model.with_part (stored imaged before s) (part_with imaged (machine (f ∷ below) after) operands s.account s.answers) ≡ stored imaged after s
state_left imaged f below before after operands s = refl
