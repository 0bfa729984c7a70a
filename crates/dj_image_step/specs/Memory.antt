-- Steps that need no memory.
use Rattle.std.specs.Prelude.{◌≡◌, Bool, true, false, List, ◌∷◌, Option, Some, None, IsFalse}
use Rattle.dj_model.specs.trusted.Types.{Prefix, Declared}
use Rattle.dj_model.specs.trusted.Program.{Program}
use Rattle.dj_model.specs.trusted.Instructions.{Instruction, PushText, Invoke, New, NewArray}
use Rattle.dj_model.specs.trusted.State.{Terms, Frame, State, instruction_at, Raise, Flow, Goes, Effect}
use Rattle.dj_model.specs.trusted.Effects.{effect, used_class}
use Rattle.dj_model.specs.trusted.Initialisation.{Ready}
use Rattle.dj_model.specs.trusted.Step.{Went, part_of, prepared, step}

-- the instruction makes an object, loads a text or calls a method
abbrev pub makes : Instruction → Bool
makes (PushText units) = true
makes (New class) = true
makes (NewArray class element) = true
makes (Invoke mode m) = true
makes i = false

-- the run goes on with an exception of the instruction's own
abbrev pub is_raise : Flow → Bool
is_raise (Goes (Raise raised)) = true
is_raise flow = false

abbrev pub raises : Option Effect → Bool
raises None = false
raises (Some e) = is_raise e.flow

-- the next instruction neither makes an object, nor loads a text, calls a method, initialises a class or raises an exception of its own, and the run goes on after it
pub record NeedsNoMemory (program : Program) (prefix : Prefix) (terms : Terms) (s : State) : Type 0 where
  pub top : Frame Declared
  pub below : List (Frame Declared)
  pub frames : s.frames ≡ top ∷ below
  pub instruction : Instruction
  pub at : instruction_at program top ≡ Some instruction
  pub makes : IsFalse (makes instruction)
  pub ready : prepared program prefix terms (used_class program prefix instruction) s ≡ Ready s
  pub raises : IsFalse (raises (effect program prefix terms top.method.class instruction (part_of top s)))
  pub next : State
  pub goes : step program prefix terms s ≡ Went next
