-- What the machine has to know of an instruction that was done, and what needs no memory after it.
use Rattle.std.specs.Prelude.{⊤, [], List}
use Rattle.dj_heap.specs.Heaps.{LimitedHeap}
use Rattle.dj_stack.specs.Frames.{StackFrame}
use Rattle.dj_image.specs.Imaged.{Imaged, program_of}
use Rattle.dj_image_effects.specs.declared.acted.Acted.{Acted}
use Rattle.dj_image_effects.specs.declared.acted.Acted.TheVariants as acts
use Rattle.dj_settling.specs.Frugal.{IsFrugal, IsFrugalThrow}
use Rattle.dj_settling.specs.Settling.{HasRoomFor, IsThrown}
use Rattle.dj_image_step.specs.Memory.{NeedsNoMemory}
use Rattle.dj_image_step.specs.Running.{Running, state_of, terms_of}

-- the next instruction of the run needs none
abbrev pub IsFrugalRun : Imaged → Running → Type 0
IsFrugalRun imaged r = NeedsNoMemory (program_of imaged) imaged.prefix (terms_of r) (state_of imaged [] r)

-- ---- used by the code alone

-- a caller has room for what is returned to it, and what is thrown is an object of a class
abbrev pub IsReadyFor : Imaged → LimitedHeap → List StackFrame → Acted → Type 0
IsReadyFor imaged heap frames (acts.Goes way) = HasRoomFor (program_of imaged) frames way
IsReadyFor imaged heap frames (acts.Catch exception) = IsThrown imaged heap exception
IsReadyFor imaged heap frames acted = ⊤

-- the run goes on after what was done, and needs no memory for it
abbrev pub IsFrugalActed : Imaged → LimitedHeap → List StackFrame → Acted → Type 0
IsFrugalActed imaged heap frames (acts.Goes way) = IsFrugal frames way
IsFrugalActed imaged heap frames (acts.Catch exception) = IsFrugalThrow imaged heap frames exception
IsFrugalActed imaged heap frames acts.Link = ⊤
IsFrugalActed imaged heap frames (acts.HeapFull used size) = ⊤
IsFrugalActed imaged heap frames acts.Call = ⊥
IsFrugalActed imaged heap frames acts.Stuck = ⊥
