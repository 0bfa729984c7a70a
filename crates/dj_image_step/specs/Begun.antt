-- A step of which a part was done at once.
use Rattle.std.specs.Prelude.{◌≡◌, ℕ, ⊤, [], List, Some, None}
use Rattle.dj_model.specs.trusted.Instructions.{Instruction}
use Rattle.dj_model.specs.trusted.State.{Flow}
use Rattle.dj_heap.specs.Heaps.{LimitedHeap}
use Rattle.dj_stack.specs.Frames.{StackFrame}
use Rattle.dj_natives.specs.Known.{AreKnown}
use Rattle.dj_numbering.specs.Typed.{types_of}
use Rattle.dj_image.specs.Imaged.{Imaged, typed_of}
use Rattle.dj_current_method.specs.Instructions.{instruction_of_number}
use Rattle.dj_initialisation.specs.Store.{store}
use Rattle.dj_initialisation.specs.Preparing.{parts}
use Rattle.dj_image_effects.specs.declared.acted.Acted.{Acted}
use Rattle.dj_image_effects.specs.declared.begun.Begun.{Begun}
use Rattle.dj_image_effects.specs.declared.begun.Begun.TheVariants as begins
use Rattle.dj_image_effects.specs.Acting.{ActsOnHeap, flow_reported}
use Rattle.dj_settling.specs.declared.settled.Settled.TheVariants as settles
use Rattle.dj_image_step.specs.Running.{Running, IsRunning}
use Rattle.dj_image_step.specs.Doing.{IsTop, IsUsed}
use Rattle.dj_image_step.specs.Turning.{MakesStep}
use Rattle.dj_image_step.specs.Frugal.{IsFrugalRun}

-- the run with another heap and other frames
abbrev pub with_heap : Running → LimitedHeap → List StackFrame → Running
with_heap r heap frames = record r { parts = parts r.parts.flags (store heap r.parts.store.statics r.parts.store.literals) frames }

-- the top frame's instruction, which uses no class, was done, and what follows isn't settled
pub record IsLeft (imaged : Imaged) (old new : Running) (acted : Acted) : Type 0 where
  pub method : ℕ
  pub number : ℕ
  pub top : IsTop imaged old.parts.frames method number
  pub instruction : Instruction
  pub at : instruction_of_number imaged method number ≡ Some instruction
  pub unused : IsUsed imaged instruction None
  pub frames : List StackFrame
  pub heap : LimitedHeap
  pub does : ActsOnHeap imaged instruction old.parts.frames frames old.parts.store.heap heap acted
  pub known : AreKnown (types_of (typed_of imaged)) heap
  -- there is such a step
  pub flow : Flow
  pub reported : flow_reported acted ≡ Some flow
  pub is : new ≡ with_heap old heap frames

-- what was done of the step
abbrev pub Begins : Imaged → Running → Running → Begun → Type 0
Begins imaged old new begins.Went = MakesStep imaged old new [] settles.Went
Begins imaged old new begins.Nothing = new ≡ old
Begins imaged old new (begins.Left acted) = IsLeft imaged old new acted

-- the run goes on so, if at all
abbrev pub IsBegun : Imaged → Running → Begun → Type 0
IsBegun imaged r begins.Went = ⊤
IsBegun imaged r begins.Nothing = IsRunning imaged r
IsBegun imaged r (begins.Left acted) = (first : Running) × IsRunning imaged first × IsLeft imaged first r acted

-- the rest needs no memory
abbrev pub IsFrugalBegun : Imaged → Running → Begun → Type 0
IsFrugalBegun imaged r begins.Went = ⊤
IsFrugalBegun imaged r begins.Nothing = IsFrugalRun imaged r
IsFrugalBegun imaged r (begins.Left acted) = (first : Running) × IsRunning imaged first × IsLeft imaged first r acted × IsFrugalRun imaged first
