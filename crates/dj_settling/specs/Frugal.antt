-- How a run goes on without memory.
use Rattle.std.specs.Prelude.{◌≡◌, ℕ, ◌+◌, ◌<◌, ◌^◌, List, ◌∷◌}
use Rattle.dj_model.specs.trusted.State.{State}
use Rattle.dj_model.specs.trusted.Step.{Went, throw}
use Rattle.dj_heap.specs.Heaps.{LimitedHeap}
use Rattle.dj_stack.specs.Frames.{StackFrame, top_number}
use Rattle.dj_effects.specs.declared.way.Way.{Way}
use Rattle.dj_effects.specs.declared.way.Way.TheVariants as ways
use Rattle.dj_image.specs.Imaged.{Imaged, program_of}
use Rattle.dj_unwinding.specs.Short.{AreShort}
use Rattle.dj_settling.specs.Settling.{seen_in}

-- there is a caller, and the number after its instruction has 32 bits
abbrev pub IsFrugalReturn : List StackFrame → Type 0
IsFrugalReturn (f ∷ (caller ∷ below)) = caller.number + 1 < 2 ^ 32
IsFrugalReturn frames = ⊥

-- the number at which the run goes on has 32 bits; an exception of the instruction's own needs memory
abbrev pub IsFrugal : List StackFrame → Way → Type 0
IsFrugal frames ways.Next = top_number frames + 1 < 2 ^ 32
IsFrugal frames (ways.To number) = number < 2 ^ 32
IsFrugal frames (ways.Raise raised) = ⊥
IsFrugal frames (ways.Back value) = IsFrugalReturn frames

-- code is short, and in the model the run goes on after the throw
pub record IsFrugalThrow (imaged : Imaged) (heap : LimitedHeap) (frames : List StackFrame) (exception : ℕ) : Type 0 where
  pub short : AreShort imaged
  pub state : State
  pub next : State
  pub goes : throw (program_of imaged) imaged.prefix (seen_in imaged heap frames state) exception ≡ Went next
