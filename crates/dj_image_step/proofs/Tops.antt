-- The top frame of frames that stand.
use Rattle.std.proofs.Common.{◌≡◌, ◌<◌, ℕ, List, [], ◌∷◌, length, Option, Some, refl, sym, ap, subst, ◌∙◌, arith}
use Rattle.dj_model.specs.trusted.Program.{Program, Code, code_of}
use Rattle.dj_model.specs.trusted.State.{instruction_in}
use Rattle.dj_model.specs.Standing.{AreStanding}
use Rattle.dj_model.proofs.SoundFrames.{code_is}
use Rattle.dj_stack.specs.Frames.{StackFrame, top_method, top_number}
use Rattle.dj_numbering.specs.Members.{all_methods}
use Rattle.dj_image.specs.Imaged.{Imaged, program_of}
use Rattle.dj_current_method.specs.Activations.{AreActivations, declared_at, frames_seen}
use Rattle.dj_current_method.specs.Instructions.{HasInstruction, instruction_of_number}
use Rattle.dj_current_method.proofs.Standing.{top_within}
use Rattle.dj_image_step.specs.Doing.{IsTop, next_of}

pub some_standing : (program : Program) (frames : List StackFrame) → AreStanding program (frames_seen program frames) → 0 < length frames
some_standing program [] standing = absurd standing
some_standing program (f ∷ below) standing = omega arith

pub top_stands : (imaged : Imaged) (frames : List StackFrame) → AreStanding (program_of imaged) (frames_seen (program_of imaged) frames)
    → HasInstruction imaged (top_method frames) (top_number frames)
top_stands imaged [] standing = absurd standing
top_stands imaged (f ∷ below) standing =
    let at = standing.0.at in
    record {
      instruction = at.instruction;
      at = subst (λ (c : Option Code). instruction_in c f.number ≡ Some at.instruction)
          (sym (code_is (program_of imaged) (declared_at (program_of imaged) f.method) at.method at.code at.there at.body)) at.at;
    }

pub is_top : (imaged : Imaged) (frames : List StackFrame) (method number : ℕ) → AreActivations imaged frames
    → AreStanding (program_of imaged) (frames_seen (program_of imaged) frames) → method ≡ top_method frames → number ≡ top_number frames → IsTop imaged frames method number
is_top imaged frames method number stand standing m n =
    let some = some_standing (program_of imaged) frames standing in
    record {
      some = some;
      method_is = m;
      number_is = n;
      there = subst (λ (k : ℕ). k < length (all_methods (program_of imaged))) (sym m) (top_within imaged frames stand some);
      stands = subst (λ (k : ℕ). HasInstruction imaged k number) (sym m) (subst (λ (k : ℕ). HasInstruction imaged (top_method frames) k) (sym n) (top_stands imaged frames standing));
    }

pub next_is : (imaged : Imaged) (frames : List StackFrame) (method number : ℕ) → IsTop imaged frames method number
    → next_of imaged (frames_seen (program_of imaged) frames) ≡ instruction_of_number imaged method number
next_is imaged [] method number top = absurd (let some = top.some in omega (arith, some))
next_is imaged (f ∷ below) method number top =
    ap (λ (k : ℕ). instruction_in (code_of (program_of imaged) (declared_at (program_of imaged) k)) f.number) (sym top.method_is)
    ∙ ap (λ (k : ℕ). instruction_in (code_of (program_of imaged) (declared_at (program_of imaged) method)) k) (sym top.number_is)
