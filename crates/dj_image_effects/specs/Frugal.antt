-- Instructions that are done without new memory.
use Rattle.std.specs.Prelude.{◌≡◌, ◌≤◌, ⊤, ℕ, Bool, true, false, List, map, Some, Result, IfErr, IsFalse, slice_get}
use Rattle.std.specs.declared.alloc.AllocError.{AllocError}
use Rattle.dj_names.specs.declared.run.Value.{Value}
use Rattle.dj_names.specs.trusted.Types.{Name}
use Rattle.dj_names.specs.trusted.Values.{value_kind}
use Rattle.dj_edge.specs.declared.host.HostAnswer.{HostAnswer}
use Rattle.dj_ops.specs.declared.instruction.Instr.TheVariants as instrs
use Rattle.dj_model.specs.trusted.Instructions.{Instruction, PushText, Invoke, New, NewArray}
use Rattle.dj_model.specs.trusted.Kinds.{depth}
use Rattle.dj_model.specs.trusted.State.{Terms, Account, Next, To, Flow, Goes, Effect}
use Rattle.dj_model.specs.trusted.Effects as effects
use Rattle.dj_heap.specs.Heaps.{LimitedHeap}
use Rattle.dj_stack.specs.Frames.{StackFrame, top_room}
use Rattle.dj_member_effects.specs.Literals.{LiteralTable}
use Rattle.dj_image.specs.Imaged.{Imaged, program_of}
use Rattle.dj_image.specs.Codes.{PooledCode, code_at}
use Rattle.dj_initialisation.specs.Store.{IsStore, store}
use Rattle.dj_image_effects.specs.declared.acted.Acted.{Acted}
use Rattle.dj_image_effects.specs.Acting.{Machine, machine, part_of}

-- the instruction makes an object, loads a text or calls a method
abbrev pub makes : Instruction → Bool
makes (PushText units) = true
makes (New class) = true
makes (NewArray class element) = true
makes (Invoke mode m) = true
makes i = false

-- where the run goes on in the frame, what is left has room: a long takes as much of it as two other values
abbrev pub HasRoomAfter : ℕ → List Value → Flow → Type 0
HasRoomAfter room operands (Goes Next) = depth (map value_kind operands) ≤ room
HasRoomAfter room operands (Goes (To number)) = depth (map value_kind operands) ≤ room
HasRoomAfter room operands flow = ⊤

-- the instruction makes nothing, there is such a step, and what it leaves has room
pub record IsFrugal (imaged : Imaged) (i : Instruction) (m : Machine) : Type 0 where
  pub makes : IsFalse (makes i)
  pub terms : Terms
  pub own : Name
  pub account : Account
  pub answers : List HostAnswer
  pub limit : terms.limit ≡ Some m.store.heap.limit
  pub does : Effect
  pub has : effects.effect (program_of imaged) imaged.prefix terms own i (part_of imaged m account answers) ≡ Some does
  pub room : HasRoomAfter (top_room m.frames) does.part.operands does.flow

-- where the instruction loads a literal, it does so by one of the three opcodes that do
abbrev pub LoadsByKnown : Imaged → ℕ → ℕ → Type 0
LoadsByKnown imaged method number = (code : PooledCode) (op index : ℕ) → code_at imaged method ≡ Some code
    → slice_get code.parts.labelled.code number ≡ Some (instrs.Literal op index) → op ≤ 20

-- ---- used by the code alone: want of memory isn't answered

abbrev pub NeverMemory : Result Acted AllocError → Type 0
NeverMemory result = IfErr result (λ e. ⊥)

-- the same of an instruction that changes nothing but frames and heap
abbrev pub FrugalOnHeap : Imaged → Instruction → List StackFrame → LimitedHeap → Result Acted AllocError → Type 0
FrugalOnHeap imaged i frames heap result =
    (statics : List ℕ) (literals : LiteralTable) → IsStore imaged (store heap statics literals) → IsFrugal imaged i (machine frames (store heap statics literals)) → NeverMemory result

-- the same for static fields
abbrev pub FrugalOnStatics : Imaged → Instruction → List StackFrame → List ℕ → Result Acted AllocError → Type 0
FrugalOnStatics imaged i frames statics result =
    (heap : LimitedHeap) (literals : LiteralTable) → IsStore imaged (store heap statics literals) → IsFrugal imaged i (machine frames (store heap statics literals)) → NeverMemory result

-- and of fields of both sorts
abbrev pub FrugalOnFields : Imaged → Instruction → List StackFrame → LimitedHeap → List ℕ → Result Acted AllocError → Type 0
FrugalOnFields imaged i frames heap statics result =
    (literals : LiteralTable) → IsStore imaged (store heap statics literals) → IsFrugal imaged i (machine frames (store heap statics literals)) → NeverMemory result
