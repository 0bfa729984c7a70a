-- Frames that stand over an image: what holds of the top one, and what calls on frames keep.
use Rattle.std.proofs.Common.{◌≡◌, ◌<◌, ℕ, List, [], ◌∷◌, length, Some, sym, ap, subst, ◌∙◌, arith}
use Rattle.std.specs.Prelude.{slice_get}
use Rattle.std.proofs.lemmas.Option.{slice_get_within}
use Rattle.dj_model.specs.trusted.Program.{code_of, body_code}
use Rattle.dj_model.specs.Sound.{IsProgram}
use Rattle.dj_stack.specs.Frames.{StackFrame, SameFrames, below_top, top_method}
use Rattle.dj_numbering.specs.Members.{all_methods}
use Rattle.dj_image.specs.Imaged.{Imaged, program_of}
use Rattle.dj_current_method.specs.Activations.{declared_at, IsActivation, AreActivations}
use Rattle.dj_current_method.proofs.Numbers.{code_of_number}

-- the method's number is one of the program
pub method_within : (imaged : Imaged) (f : StackFrame) → IsActivation imaged f → f.method < length (all_methods (program_of imaged))
method_within imaged f is = slice_get_within (all_methods (program_of imaged)) f.method is.found is.there

pub top_within : (imaged : Imaged) (frames : List StackFrame) → AreActivations imaged frames → 0 < length frames → top_method frames < length (all_methods (program_of imaged))
top_within imaged [] are some = absurd (omega (arith, some))
top_within imaged (f ∷ below) are some = method_within imaged f are.0

-- and it has the frame's code
pub code_of_activation : (imaged : Imaged) → IsProgram (program_of imaged) → (f : StackFrame) (is : IsActivation imaged f) → code_of (program_of imaged) (declared_at (program_of imaged) f.method) ≡ Some is.code
code_of_activation imaged formed f is = code_of_number (program_of imaged) formed f.method is.found is.there ∙ ap body_code is.runs

pub below_stand : (imaged : Imaged) (frames : List StackFrame) → AreActivations imaged frames → AreActivations imaged (below_top frames)
below_stand imaged [] are = tt
below_stand imaged (f ∷ below) are = are.1

pub same_activation : (imaged : Imaged) (f g : StackFrame) → g.method ≡ f.method → g.room ≡ f.room → IsActivation imaged f → IsActivation imaged g
same_activation imaged f g method room is = record {
  found = is.found;
  there = ap (λ (n : ℕ). slice_get (all_methods (program_of imaged)) n) method ∙ is.there;
  code = is.code;
  runs = is.runs;
  room = room ∙ is.room;
}

-- they stand where the number, the local variables and the operands of the top frame change
pub same_stand : (imaged : Imaged) (old new : List StackFrame) → SameFrames old new → AreActivations imaged old → AreActivations imaged new
same_stand imaged [] [] same are = tt
same_stand imaged [] (g ∷ below) same are = absurd (omega (arith, same.count))
same_stand imaged (f ∷ below) [] same are = tt
same_stand imaged (f ∷ below) (g ∷ rest) same are = (
  same_activation imaged f g same.method same.room are.0,
  subst (λ (frames : List StackFrame). AreActivations imaged frames) (sym same.below) are.1,
)
