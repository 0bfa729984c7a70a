-- Used by the code alone: a call whose method was chosen.
use Rattle.std.specs.Prelude.{◌≡◌, ◌<◌, List, length, Some}
use Rattle.dj_model.specs.trusted.Types.{Member}
use Rattle.dj_model.specs.trusted.Instructions.{Mode}
use Rattle.dj_stack.specs.Frames.{StackFrame, top_method}
use Rattle.dj_image.specs.Imaged.{Imaged, program_of}
use Rattle.dj_current_method.specs.Activations.{declared_at}
use Rattle.dj_initialisation.specs.Preparing.{parts}
use Rattle.dj_invocation.specs.declared.answers.Invoked.{Invoked}
use Rattle.dj_invocation.specs.Invoking.{Invokes, site}
use Rattle.dj_settling.specs.Settling.{IsStop}
use Rattle.dj_image_step.specs.Running.{Running}
use Rattle.dj_image_step.specs.Doing.{IsStill}

-- the run with other frames
abbrev pub before : Running → List StackFrame → Running
before r old = record r { parts = parts r.parts.flags r.parts.store old }

-- the call was begun on these frames
pub record IsInvoked (imaged : Imaged) (old : List StackFrame) (called : Mode) (m : Member) (r : Running) (invoked : Invoked) : Type 0 where
  pub some : 0 < length old
  pub still : IsStill imaged (before r old)
  pub stop : IsStop imaged r.parts.store.heap r.stop
  pub invokes : Invokes (site imaged old r.parts.store.heap.heap called (declared_at (program_of imaged) (top_method old)).class m) r.parts.frames (Some invoked)
